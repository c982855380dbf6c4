-- `fill_columns` meets its contract: the columns before j are filled.
use Rattle.fill.proofs.FurtherLaws.{ColumnsDone}
use Rattle.fill.proofs.fill_columns.Given as goal

abbrev pub invariant-loop-j : goal.invariant-loop-j
invariant-loop-j l = ColumnsDone l.tables l.prepared l.text l.initial.chart l.initial.sums l.initial.live l.chart l.sums l.live l.j
