-- `entry_of` meets its contract: the cell of the entry's row.
use Prim.Native.Nat.{ℕ, ◌+◌}
use mathlib.Core.Path.{◌∙◌, ap}
use native.Mathlib.Omega.{arith}
use Rattle.chart.proofs.LayoutLaws.{entry_row, row_of_count}
use Rattle.chart.specs.Counted.{entry_of}
use Rattle.chart.specs.Layout.{cell_at, entry_at}
use Rattle.tables.specs.Layout.{counts_of, arity_in}
use Rattle.chart.proofs.cells.entry_of.Goals as goal

pub overflow_add-first_row : goal.overflow_add-first_row
overflow_add-first_row c =
    let start = c in
    omega (arith, (entry_row start.args.tables.now start.args.n start.args.chart.now start.args.p start.args.d c.first_row.result start.requires.chart_fits start.requires.p_in_bounds.0 start.requires.p_in_bounds.1 c.first_row.ensures).0)

pub get-requires : goal.get-requires
get-requires c = let start = c in
    let row = entry_row start.args.tables.now start.args.n start.args.chart.now start.args.p start.args.d c.first_row.result start.requires.chart_fits start.requires.p_in_bounds.0 start.requires.p_in_bounds.1 c.first_row.ensures in
    record { n_le_text_limit = (start.requires.chart_fits.short, row.0, start.requires.p_in_bounds.2, start.requires.p_in_bounds.3); n_in_bounds = row.1 }

pub returns : goal.returns
unfolding entry_of
returns c =
    let start = c in
    c.get.ensures ∙ ap (λ (row : ℕ). entry_at start.args.chart.now (cell_at start.args.n row start.args.i start.args.j)) (ap (λ (k : ℕ). k + start.args.d) c.first_row.ensures ∙ row_of_count (arity_in (counts_of start.args.tables.now)) start.args.p start.args.d)
