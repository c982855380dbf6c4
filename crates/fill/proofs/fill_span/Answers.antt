-- `fill_span` meets its contract: dead, or settled, stored and added, the span is filled.
use Prim.Native.Nat.{ℕ, ◌+◌, ◌*◌}
use mathlib.Core.Bool.{true, not, ◌&&◌}
use mathlib.Core.Path.{◌≡◌, refl, sym, ◌∙◌, ap}
use native.Mathlib.Omega.{arith}
use lib.Dec.{eqb}
use lib.ListN.{length, get_or}
use borrow.Author.Tests.{eqb-true, eqb-false, not-true}
use Rattle.chart.proofs.LayoutLaws.{table_rows_few}
use Rattle.chart.specs.Layout.{span_count}
use Rattle.common.proofs.BoolLaws.{and_first_true, and_second_true}
use Rattle.fill.proofs.FillSpanLaws.{char_args_small, cells_small, span_small, span_further, span_skipped}
use Rattle.fill.specs.Tables.{rows_of}
use Rattle.fill.proofs.fill_span.Goals as goal

pub returns-then-is_dead : goal.returns-then-is_dead
returns-then-is_dead c = let start = c in
    let a = start.args in
    let e : (not (eqb (a.span.start + 1) a.span.end) && eqb (get_or a.live.now a.span.start 0) 0) ≡ true = sym c.is_dead.ensures ∙ c.if-is_dead.true in
    let apart = eqb-false (a.span.start + 1) a.span.end (not-true (eqb (a.span.start + 1) a.span.end) (and_first_true (not (eqb (a.span.start + 1) a.span.end)) (eqb (get_or a.live.now a.span.start 0) 0) e)) in
    let dead = eqb-true (get_or a.live.now a.span.start 0) 0 (and_second_true (not (eqb (a.span.start + 1) a.span.end)) (eqb (get_or a.live.now a.span.start 0) 0) e) in
    record { further = span_skipped a.tables.now a.prepared.now a.text.now a.chart.now a.sums.now a.live.now (rows_of a.tables.now) a.span.start a.span.end refl start.requires.ready start.requires.start_lt_end.0 start.requires.start_lt_end.1 apart dead start.requires.small.little; small_2 = start.requires.small }

pub sums_at-requires : goal.sums_at-requires
sums_at-requires c =
    let start = c in
    let few = table_rows_few start.args.tables.now start.requires.ready.fits.tables in
    (start.requires.ready.sums_long, omega (arith, c.row_count-rows.ensures), omega (arith, start.requires.ready.fits.short, start.requires.start_lt_end.0, start.requires.start_lt_end.1), start.requires.start_lt_end.2)

pub settle_span-requires : goal.settle_span-requires
settle_span-requires c = let start = c in
    let char-args = c.char_args in record { parser_tables = (start.requires.ready.fits.tables, start.requires.ready.prepared); inner_len = (c.sums_at.auto.out ∙ start.requires.start_lt_end.2, char-args.auto.args ∙ c.zero_row-args.ensures.long, c.zero_row-cells.ensures); by_index = char_args_small start.args.tables.now start.args.text.now start.args.span.start start.args.span.end char-args.new.args char-args.ensures }

pub store_cells-requires : goal.store_cells-requires
store_cells-requires c = let start = c in
    let row_count = c.row_count-rows in
    let few = table_rows_few start.args.tables.now start.requires.ready.fits.tables in
    record { n_le_text_limit = (start.requires.ready.fits.short, omega (arith, row_count.ensures), omega (arith, start.requires.start_lt_end.0), start.requires.start_lt_end.1); n_in_bounds = (omega (arith, start.requires.ready.fits.long_enough, ap (λ (n : ℕ). n * span_count (length start.args.text.now)) row_count.ensures), c.settle_span.auto.cells ∙ c.zero_row-cells.ensures.long) }

pub add_splits-requires : goal.add_splits-requires
add_splits-requires c = let start = c in
    let settle-span = c.settle_span in
    let row_count = c.row_count-rows in
    let char-args = c.char_args in
    let zero-cells = c.zero_row-cells in
    let store_cells = c.store_cells in
    let few = table_rows_few start.args.tables.now start.requires.ready.fits.tables in
    let x = settle-span.new.cells in
    let args = settle-span.new.args in
    let cells = cells_small start.args.tables.now start.args.prepared.now start.args.text.now start.args.chart.now start.args.sums.now start.args.live.now row_count.result start.args.span.start start.args.span.end row_count.ensures start.requires.ready start.requires.start_lt_end.0 start.requires.start_lt_end.1 c.sums_at.new.out char-args.new.args zero-cells.result x args store_cells.new.chart zero-cells.ensures settle-span.ensures store_cells.ensures start.requires.small.cells in record { n_le_text_limit = (start.requires.ready.fits.short, omega (arith, row_count.ensures), omega (arith, start.requires.start_lt_end.0, start.requires.start_lt_end.1), settle-span.auto.args ∙ char-args.auto.args ∙ c.zero_row-args.ensures.long); n_in_bounds = (omega (arith, start.requires.ready.fits.long_enough, store_cells.auto.chart, ap (λ (n : ℕ). n * span_count (length start.args.text.now)) row_count.ensures), start.requires.ready.sums_long, start.requires.ready.live_long); by_index = ((λ r k lr lk. start.requires.small.little.small_sums r k (omega (arith, row_count.ensures)) (omega (arith, start.requires.start_lt_end.0))), (λ r k lr lk. cells.small_cells r k start.args.span.start (omega (arith, row_count.ensures)) lk (omega (arith, start.requires.start_lt_end.0)))) }

pub returns : goal.returns
returns c = let start = c in
    let settle-span = c.settle_span in
    let row_count = c.row_count-rows in
    let sums_at = c.sums_at in
    let char-args = c.char_args in
    let zero-cells = c.zero_row-cells in
    let store_cells = c.store_cells in
    let add-splits = c.add_splits in
    let x = settle-span.new.cells in
    let args = settle-span.new.args in record { further = span_further start.args.tables.now start.args.prepared.now start.args.text.now start.args.chart.now start.args.sums.now start.args.live.now row_count.result start.args.span.start start.args.span.end row_count.ensures start.requires.ready start.requires.start_lt_end.0 start.requires.start_lt_end.1 sums_at.new.out char-args.new.args zero-cells.result x args store_cells.new.chart zero-cells.ensures settle-span.ensures store_cells.ensures add-splits.new.sums add-splits.new.live sums_at.ensures.0 char-args.ensures add-splits.ensures; small_2 = span_small start.args.tables.now start.args.prepared.now start.args.text.now start.args.chart.now start.args.sums.now start.args.live.now row_count.result start.args.span.start start.args.span.end row_count.ensures start.requires.ready start.requires.start_lt_end.0 start.requires.start_lt_end.1 sums_at.new.out char-args.new.args zero-cells.result x args store_cells.new.chart zero-cells.ensures settle-span.ensures store_cells.ensures add-splits.new.sums add-splits.new.live sums_at.ensures.0 char-args.ensures add-splits.ensures start.requires.small }
