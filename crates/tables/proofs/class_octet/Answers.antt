-- `class_octet` meets its contract: the shift and the remainder are those of the definition.
use mathlib.Core.Path.{refl}
use Rattle.tables.specs.Layout.{production_octet}
use Rattle.tables.proofs.class_octet.Goals as goal

pub returns : goal.returns
unfolding production_octet
returns c = rw c.slot_at.ensures.place refl
