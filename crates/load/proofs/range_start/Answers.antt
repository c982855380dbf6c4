-- `range_start` meets its contract.
use mathlib.Core.Path.{refl}
use Rattle.form.specs.Read.{range_to}
use Rattle.load.proofs.range_start.Goals as goal

pub overflow_sub-result : goal.overflow_sub-result
overflow_sub-result c = c.requires c.if-dashed.true

pub returns-then-dashed : goal.returns-then-dashed
unfolding range_to
returns-then-dashed c = rw c.if-dashed.true refl

pub returns : goal.returns
unfolding range_to
returns c = rw c.if-dashed.false refl
