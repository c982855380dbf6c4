-- `count_lines` meets its contract: a line from each start to the next.
use Prim.Native.Nat.{◌-◌}
use lib.ListN.{length}
use Rattle.split.proofs.LinesLaws.{Counting}
use Rattle.split.proofs.count_lines.Given as goal

abbrev pub invariant-loop-start : goal.invariant-loop-start
invariant-loop-start l = Counting l.sheet l.count l.start

abbrev pub decreases-loop-start : goal.decreases-loop-start
decreases-loop-start l = length l.sheet - l.start
