-- `end_answer` meets its contract.
use mathlib.Core.Path.{refl}
use Rattle.load.specs.Held.{end_answer}
use Rattle.load.proofs.end_answer.Goals as goal

pub returns-then-may_end : goal.returns-then-may_end
unfolding end_answer
returns-then-may_end c = rw (← c.may_end.ensures, c.if-may_end.true) refl

pub returns : goal.returns
unfolding end_answer
returns c = rw (← c.may_end.ensures, c.if-may_end.false, c.at.ensures) refl
