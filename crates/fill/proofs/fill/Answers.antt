-- `fill` meets its contract: all columns filled and the rows turned, the chart counts.
use Prim.Native.Nat.{ℕ, ◌*◌}
use mathlib.Core.Path.{ap, subst}
use native.Mathlib.Omega.{arith}
use lib.ListN.{length, length-replicate}
use Rattle.chart.proofs.LayoutLaws.{table_rows_few}
use Rattle.chart.specs.Layout.{span_count, places}
use Rattle.chart.specs.ByEnds.{Turned}
use Rattle.fill.proofs.FurtherLaws.{filled_counts, filled_beyond}
use Rattle.fill.proofs.fill.Goals as goal

pub fill_columns-requires : goal.fill_columns-requires
fill_columns-requires c =
    let start = c in
    record { fits = start.requires.chart_fits; prepared = start.requires.prepared; sums_long = c.zero_sums-sums.ensures.long; live_long = length-replicate {A = ℕ} places 0 }

pub row_count-requires : goal.row_count-requires
row_count-requires c = c.requires.chart_fits.tables

pub turn_rows-requires : goal.turn_rows-requires
turn_rows-requires c = let start = c in
    let few = table_rows_few start.args.tables.now start.requires.chart_fits.tables in
    record { n_le_text_limit = (start.requires.chart_fits.short, omega (arith, c.row_count.ensures)); n_in_bounds = omega (arith, c.fill_columns.auto.chart, ap (λ (n : ℕ). n * span_count (length start.args.text.now)) c.row_count.ensures, start.requires.chart_fits.long_enough) }

pub returns : goal.returns
returns c = let start = c in
    let fill-columns = c.fill_columns in
    let turn-rows = c.turn_rows in
    let turn = subst (λ (n : ℕ). Turned (length start.args.text.now) n fill-columns.new.chart turn-rows.new.chart) c.row_count.ensures turn-rows.ensures in record { counted_by = filled_counts start.args.tables.now start.args.prepared.now start.args.text.now start.args.chart.now fill-columns.new.chart turn-rows.new.chart start.requires.prepared fill-columns.ensures.onward fill-columns.ensures.small_cells turn; by_index = filled_beyond start.args.tables.now start.args.prepared.now start.args.text.now start.args.chart.now fill-columns.new.chart turn-rows.new.chart start.requires.prepared fill-columns.ensures.onward fill-columns.ensures.small_cells turn }
