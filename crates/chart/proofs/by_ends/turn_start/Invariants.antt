-- `turn_start` meets its contract: the cells that end before j are written.
use Rattle.chart.proofs.TurnLaws.{EndsTurned}
use Rattle.chart.proofs.by_ends.turn_start.Given as goal

abbrev pub invariant-loop-j : goal.invariant-loop-j
invariant-loop-j l = EndsTurned l.n l.row l.i l.j l.cells l.initial.chart l.chart
