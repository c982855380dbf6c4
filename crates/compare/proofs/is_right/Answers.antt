-- `is_right` meets its contract.
use mathlib.Core.Path.{sym, ◌∙◌, ap}
use Rattle.compare.specs.Answer.{found_right}
use Rattle.compare.proofs.is_right.Goals as goal

pub returns-in-Right : goal.returns-in-Right
unfolding found_right
returns-in-Right c = sym (ap found_right (sym c.judge.ensures ∙ c.in-Right.is))

pub returns-in-Wrong : goal.returns-in-Wrong
unfolding found_right
returns-in-Wrong c = sym (ap found_right (sym c.judge.ensures ∙ c.in-Wrong.is))
