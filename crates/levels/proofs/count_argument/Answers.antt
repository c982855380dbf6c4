-- `count_argument` meets its contract.
use mathlib.Core.Path.{refl}
use native.Mathlib.Omega.{arith}
use Rattle.levels.specs.Levels.{written_of}
use Rattle.levels.proofs.count_argument.Goals as goal

pub overflow_add-levels-2 : goal.overflow_add-levels-2
unfolding written_of
overflow_add-levels-2 c = omega arith

pub returns : goal.returns
unfolding written_of
returns c = refl
