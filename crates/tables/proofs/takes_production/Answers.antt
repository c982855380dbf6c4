-- `takes_production` meets its contract: the shift and the remainder are the bit of the definition.
use mathlib.Core.Path.{refl}
use Rattle.charset.specs.Set.{bit}
use Rattle.tables.specs.Layout.{takes_production}
use Rattle.tables.proofs.takes_production.Goals as goal

pub returns : goal.returns
unfolding takes_production bit
returns c = rw c.slot_at.ensures.place refl
