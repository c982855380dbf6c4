-- `add_splits` meets its contract: the splits of the rows below r are added, and the sums of later rows are as they were.
use Rattle.column.specs.Sums.{SplitsAdded}
use Rattle.column.proofs.add_splits.Given as goal

abbrev pub invariant-loop-r : goal.invariant-loop-r
invariant-loop-r l = SplitsAdded l.n l.r l.m l.chart l.args l.initial.sums l.initial.live l.sums l.live
