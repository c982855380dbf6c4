-- `write_counts_and_root` meets its contract: the counts are written, and then the class of the root.
use Prim.Native.Nat.{ℕ, ◌+◌, ◌-◌}
use mathlib.Core.Path.{◌≡◌, ◌∙◌, subst}
use native.Mathlib.Omega.{arith}
use lib.ListN.{length, take, drop}
use Rattle.flatten.proofs.TableLaws.{has_result, written_none}
use Rattle.layout.proofs.FramedLaws.{bodies_in}
use Rattle.layout.specs.Layout.{productions, start_sort}
use Rattle.layout.specs.Limits.{header_length}
use Rattle.tables.specs.Put.{CountsPut}
use Rattle.flatten.proofs.write_counts_and_root.Goals as goal

pub slice_bounds-put_counts-end : goal.slice_bounds-put_counts-end
slice_bounds-put_counts-end c =
    let start = c in
    omega (arith, c.production_count-count.ensures, bodies_in start.args.book.now start.requires.well_formed.framed)

pub returns : goal.returns
returns c =
    let start = c in
    let production-count = c.production_count-count in
    let put-counts = c.put_counts in
    let b = start.args.book.now in
    let e : header_length + production-count.result - header_length ≡ productions b = omega (arith, production-count.ensures) in
    written_none b start.requires.well_formed _ _ _ _ c.put_class.ensures c.empty.ensures
    (λ q l. c.with_result.ensures q l ∙ has_result b start.requires.well_formed start.args.sets start.requires.by_result q l (start_sort b))
    (subst (λ (n : ℕ). CountsPut (take n (drop header_length b)) (length (take n (drop header_length b))) put-counts.new.tables) e put-counts.ensures.counts_put)
