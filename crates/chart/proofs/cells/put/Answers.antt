-- `put` meets its contract: the cell stands in the chart.
use Prim.Native.Nat.{ℕ}
use mathlib.Core.Path.{ap}
use native.Mathlib.Omega.{arith}
use lib.ListN.{set}
use Rattle.chart.proofs.LayoutLaws.{cell_in}
use Rattle.chart.proofs.cells.put.Goals as goal

pub bounds-chart-cell_at : goal.bounds-chart-cell_at
bounds-chart-cell_at c = omega (arith, (cell_in c.args.n c.args.row c.args.i c.args.j c.requires.n_le_text_limit.2 c.requires.n_le_text_limit.3).1)

pub returns : goal.returns
returns c = ap (λ (at : ℕ). set c.args.chart.now at c.args.value) c.cell_at.ensures
