-- `clear_column` meets its contract: the rows below r are cleared.
use Rattle.column.specs.Sums.{ColumnCleared}
use Rattle.column.proofs.clear_column.Given as goal

abbrev pub invariant-loop-r : goal.invariant-loop-r
invariant-loop-r l = ColumnCleared l.n l.r l.j l.initial.chart l.chart
