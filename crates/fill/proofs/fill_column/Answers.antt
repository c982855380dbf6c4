-- `fill_column` meets its contract: cleared, its spans filled, and its empty span stored, the column is filled.
use Prim.Native.Nat.{ℕ, ◌-◌, ◌*◌}
use mathlib.Core.Path.{◌∙◌, ap, subst}
use native.Mathlib.Nat.{le_refl}
use native.Mathlib.Omega.{arith}
use lib.ListN.{length, get_or}
use Rattle.chart.proofs.LayoutLaws.{table_rows_few}
use Rattle.chart.specs.Layout.{span_count}
use Rattle.chart.specs.ByEnds.{place_at}
use Rattle.column.specs.Scattered.{Scattered}
use Rattle.column.specs.Sums.{ColumnCleared}
use Rattle.fill.proofs.FurtherLaws.{column_onward, ready_kept}
use Rattle.fill.proofs.SmallLaws.{sums_zero, small_zero, small_cleared, small_diagonal}
use Rattle.fill.specs.Filling.{SmallSums}
use Rattle.fill.specs.Tables.{rows_of}
use Rattle.prepare.proofs.PreparedLaws.{part_long}
use Rattle.prepare.specs.Prepared.{empty_at, back_at, empty_in}
use Rattle.fill.proofs.fill_column.Goals as goal

pub row_count-rows-requires : goal.row_count-rows-requires
row_count-rows-requires c = c.requires.ready.fits.tables

pub clear_column-requires : goal.clear_column-requires
clear_column-requires c = let start = c in
    let few = table_rows_few start.args.tables.now start.requires.ready.fits.tables in
    record { n_le_text_limit = (start.requires.ready.fits.short, omega (arith, c.row_count-rows.ensures), start.requires.j_in_bounds); n_in_bounds = omega (arith, start.requires.ready.fits.long_enough, ap (λ (n : ℕ). n * span_count (length start.args.text.now)) c.row_count-rows.ensures) }

pub overflow_mul-rows : goal.overflow_mul-rows
overflow_mul-rows c =
    let start = c in
    let few = table_rows_few start.args.tables.now start.requires.ready.fits.tables in
    omega (arith, c.row_count-rows.ensures)

pub clear-requires : goal.clear-requires
clear-requires c =
    let start = c in
    let few = table_rows_few start.args.tables.now start.requires.ready.fits.tables in
    omega (arith, c.row_count-rows.ensures, start.requires.ready.sums_long)

pub clear-requires-2 : goal.clear-requires-2
clear-requires-2 c =
    let start = c in
    omega (arith, start.requires.ready.fits.short, start.requires.ready.live_long, start.requires.j_in_bounds)

pub fill_spans-requires : goal.fill_spans-requires
fill_spans-requires c = let start = c in
    let clear-column = c.clear_column in
    let row_count = c.row_count-rows in
    let clear = c.clear in
    let clear2 = c.clear-2 in
    let w = start.args.text.now in
    let cleared = subst (λ (n : ℕ). ColumnCleared (length w) n start.args.j start.args.chart.now clear-column.new.chart) row_count.ensures clear-column.ensures in
    let zeros = sums_zero row_count.result start.args.j start.args.sums.now clear.new.bytes (omega (arith, start.requires.ready.fits.short, start.requires.j_in_bounds)) clear.ensures in record {
      ready = ready_kept clear-column.new.chart clear.new.bytes clear2.new.bytes clear-column.auto.chart clear.auto.bytes clear2.auto.bytes start.requires.ready;
      j_in_bounds = start.requires.j_in_bounds;
      small = record {
        cells = small_cleared (length w) (rows_of start.args.tables.now) start.args.j start.requires.j_in_bounds start.args.chart.now clear-column.new.chart cleared start.requires.small_cells;
        little = subst (λ (n : ℕ). SmallSums n start.args.j clear.new.bytes) row_count.ensures (small_zero row_count.result start.args.j clear.new.bytes zeros);
      };
    }

pub slice_bounds-store_cells-end : goal.slice_bounds-store_cells-end
slice_bounds-store_cells-end c = omega (arith, c.requires.ready.prepared.linked.long)

pub store_cells-requires : goal.store_cells-requires
store_cells-requires c = let start = c in
    let row_count = c.row_count-rows in
    let few = table_rows_few start.args.tables.now start.requires.ready.fits.tables in
    record { n_le_text_limit = (start.requires.ready.fits.short, omega (arith, row_count.ensures), le_refl start.args.j, start.requires.j_in_bounds); n_in_bounds = (omega (arith, start.requires.ready.fits.long_enough, c.fill_spans.auto.chart, c.clear_column.auto.chart, ap (λ (n : ℕ). n * span_count (length start.args.text.now)) row_count.ensures), part_long empty_at (back_at - empty_at) start.args.prepared.now (omega (arith, start.requires.ready.prepared.linked.long))) }

pub shape_of-chart : goal.shape_of-chart
shape_of-chart c = c.store_cells.auto.chart ∙ c.fill_spans.auto.chart ∙ c.clear_column.auto.chart

pub shape_of-sums : goal.shape_of-sums
shape_of-sums c = c.fill_spans.auto.sums ∙ c.clear.auto.bytes

pub shape_of-live : goal.shape_of-live
shape_of-live c = c.fill_spans.auto.live ∙ c.clear-2.auto.bytes

pub returns : goal.returns
returns c = let start = c in
    let row_count = c.row_count-rows in
    let clear = c.clear in
    let fill-spans = c.fill_spans in
    let store_cells = c.store_cells in
    let clear-column = c.clear_column in
    let clear2 = c.clear-2 in
    let w = start.args.text.now in
    let zeros = sums_zero row_count.result start.args.j start.args.sums.now clear.new.bytes (omega (arith, start.requires.ready.fits.short, start.requires.j_in_bounds)) clear.ensures in
    let stored = subst (λ (n : ℕ). Scattered (λ (r : ℕ). place_at (length w) r start.args.j start.args.j) (λ (r : ℕ). get_or (empty_in start.args.prepared.now) r 0) n fill-spans.new.chart store_cells.new.chart) row_count.ensures store_cells.ensures in record { onward = column_onward row_count.result start.args.chart.now clear-column.new.chart clear.new.bytes clear2.new.bytes fill-spans.new.chart fill-spans.new.sums fill-spans.new.live store_cells.new.chart start.args.j row_count.ensures start.requires.j_in_bounds clear-column.ensures (clear.auto.bytes ∙ start.requires.ready.sums_long) (clear2.auto.bytes ∙ start.requires.ready.live_long) zeros fill-spans.ensures.further store_cells.ensures; small_cells_2 = small_diagonal (length w) (rows_of start.args.tables.now) start.args.j start.requires.j_in_bounds (empty_in start.args.prepared.now) fill-spans.new.chart store_cells.new.chart stored fill-spans.ensures.small_2.cells }
