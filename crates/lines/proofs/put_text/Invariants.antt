-- `put_text` meets its contract: the columns passed are put.
use Rattle.common.specs.Lists.{tabulate}
use Rattle.lines.specs.Text.{shown}
use Rattle.writing.specs.Put.{Put}
use Rattle.lines.proofs.put_text.Given as goal

abbrev pub invariant-loop-c : goal.invariant-loop-c
invariant-loop-c l = Put (tabulate l.c (shown l.text l.start l.end)) l.initial.out l.at l.out l.place
