-- `line_end` meets its contract: the line goes on at each place passed.
use Rattle.split.proofs.LinesLaws.{Ending}
use Rattle.split.proofs.line_end.Given as goal

abbrev pub invariant-loop-end : goal.invariant-loop-end
invariant-loop-end l = Ending l.sheet l.start l.end
