-- `settle_by_links` meets its contract.
use Prim.Native.Nat.{ℕ}
use mathlib.Core.List.{List}
use mathlib.Core.Path.{sym, ◌∙◌, ap, subst, subst⁻¹}
use lib.ListN.{length, get_or}
use Rattle.fill.proofs.FillSpanLaws.{zero_exact, zero_founded}
use Rattle.prepare.proofs.PreparedLaws.{counts_read}
use Rattle.prepare.specs.Prepared.{users_in, uses_in, counts_in}
use Rattle.span.specs.Tables.{span_of, Links, Settled}
use Rattle.tables.specs.Layout.{arity_in, row_count}
use Rattle.fill.proofs.settle_by_links.Goals as goal

pub invariant_of-links : goal.invariant_of-links
invariant_of-links c =
    let b = c.args.prepared.now in
    let same = counts_read c.args.tables.now b c.production_count-count.result c.production_count-count.ensures c.requires.parser_tables.1 in
    record { linked = subst⁻¹ (λ (l : List ℕ). Links l (users_in b) (uses_in b)) same c.requires.parser_tables.1.linked.links; all_rows = c.row_count.ensures ∙ sym (ap (λ (l : List ℕ). row_count (arity_in l) (length l)) same) }

pub settle-requires : goal.settle-requires
settle-requires c =
    let a = c.args in
    record { loads = c.requires.loads.0; founded = zero_founded (counts_in c.production_count-count.result a.prepared.now) (users_in a.prepared.now) a.inner.now a.front.now a.back.now a.args.now a.cells.now c.requires.by_index c.requires.loads.1 }

pub returns : goal.returns
returns c =
    let start = c in
    let production-count = c.production_count-count in
    let settle = c.settle in
    let b = start.args.prepared.now in
    let n = production-count.result in
    let same = counts_read start.args.tables.now b n production-count.ensures start.requires.parser_tables.1 in
    let exact = zero_exact (counts_in n b) (users_in b) start.args.inner.now start.args.front.now start.args.back.now start.args.args.now start.args.cells.now start.requires.loads.1 in
    record { settled = subst (λ (l : List ℕ). Settled (span_of l (users_in b) start.args.inner.now start.args.front.now start.args.back.now (λ k. get_or start.args.args.now k 0)) start.args.cells.now settle.new.args settle.new.cells) same (settle.ensures (λ k. get_or start.args.args.now k 0) exact) }
