-- `turn_row` meets its contract: the cells that start before i are written, from a copy of the row.
use Rattle.chart.proofs.TurnLaws.{StartsTurned}
use Rattle.chart.proofs.by_ends.turn_row.Given as goal

abbrev pub invariant-loop-i : goal.invariant-loop-i
invariant-loop-i l = StartsTurned l.n l.row l.i l.initial.chart l.chart
