-- `entry_at` meets its contract.
use mathlib.Core.Path.{refl}
use Rattle.priority.specs.Chain.{entry}
use Rattle.question.proofs.entry_at.Goals as goal

pub returns : goal.returns
unfolding entry
returns c = refl
