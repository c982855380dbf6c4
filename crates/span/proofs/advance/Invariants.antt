-- `advance` meets its contract: the cells are raised for the first d arguments.
use mathlib.Core.Path.{◌≡◌}
use lib.ListN.{length}
use Rattle.chart.specs.Layout.{row_limit}
use Rattle.span.specs.Tables.{advanced}
use Rattle.span.proofs.advance.Given as goal

abbrev pub invariant-loop-d : goal.invariant-loop-d
invariant-loop-d l = (l.cells ≡ advanced l.inner l.front l.back l.args l.base l.d l.initial.cells) × (length l.cells ≡ row_limit)
