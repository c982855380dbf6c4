-- `put_rows` meets its contract: the lines of the numbers passed are put.
use Prim.Native.Nat.{ℕ}
use mathlib.Core.Path.{◌≡◌, refl, sym, ap, subst}
use native.Mathlib.Omega.{arith}
use lib.ListN.{length, get_or}
use Rattle.common.proofs.ListLaws.{joined_tabulate_next}
use Rattle.common.specs.Lists.{tabulate, joined}
use Rattle.numbers.proofs.NumbersLaws.{numbers_length}
use Rattle.numbers.specs.Numbers.{numbers_of}
use Rattle.lines.proofs.TextLaws.{row_length}
use Rattle.lines.specs.Text.{page_text, row_text, RowFits}
use Rattle.rows.specs.Table.{unpacked, table_rows}
use Rattle.rows.specs.declared.Row.{Row}
use Rattle.writing.proofs.PutLaws.{put_none, put_append, put_same}
use Rattle.lines.proofs.put_rows.Invariants.{rows_below}
use Rattle.lines.proofs.put_rows.Goals as goal

pub loop-k-init : goal.loop-k-init
unfolding page_text joined tabulate
loop-k-init c = (put_none c.args.out.now 0, refl)

pub row_at-requires : goal.row_at-requires
row_at-requires c =
    let start = c in
    (omega (arith, numbers_length start.args.listing.now), omega (arith, start.requires.listing_in_bounds.0, numbers_length start.args.listing.now))

pub put_row-place-requires-clause-row_fits : goal.put_row-place-requires-clause-row_fits
put_row-place-requires-clause-row_fits c = let start = c in
    let turn = c.loop-k in
    let a = start.args in
    subst (RowFits a.text.now) (sym c.row_at.ensures) (start.requires.by_index turn.k (omega (arith, numbers_length a.listing.now)))

pub put_row-place-requires-clause-line_length_bound : goal.put_row-place-requires-clause-line_length_bound
put_row-place-requires-clause-line_length_bound c = let start = c in
    let turn = c.loop-k in
    let a = start.args in
    omega (arith, turn.invariant.1, numbers_length a.listing.now, start.requires.listing_in_bounds.0, start.requires.listing_in_bounds.1)

pub loop-k-preserved : goal.loop-k-preserved
unfolding page_text
loop-k-preserved c =
    let start = c in
    let turn = c.loop-k in
    let a = start.args in
    let row : ℕ → Row = λ j. unpacked (get_or (numbers_of a.listing.now) j 0) (get_or a.table.now j 0) in
    let fits = start.requires.by_index turn.k (omega (arith, numbers_length a.listing.now)) in
    let put = put_same _ _ _ _ _ _ (ap (row_text a.text.now) c.row_at.ensures) c.put_row-place.ensures in (
      put_same _ _ _ _ _ _ (sym (joined_tabulate_next (row_text a.text.now) turn.k row)) (put_append _ _ _ _ _ _ _ _ turn.invariant.0 put),
      omega (arith, put.next, turn.invariant.1, row_length a.text.now (row turn.k) fits),
    )

pub returns : goal.returns
unfolding table_rows
returns c =
    let a = c.args in
    let all : c.loop-k.k ≡ length (numbers_of a.listing.now) = omega (arith, numbers_length a.listing.now) in
    put_same _ _ _ _ _ _ (ap (λ (j : ℕ). page_text a.text.now (rows_below a.listing.now a.table.now j)) all) c.loop-k.invariant.0
