-- `takes_char` meets its contract: the shift and the remainder are the bit of the definition.
use mathlib.Core.Path.{refl}
use Rattle.charset.specs.Set.{bit}
use Rattle.tables.specs.Layout.{takes_char}
use Rattle.tables.proofs.takes_char.Goals as goal

pub returns : goal.returns
unfolding takes_char bit
returns c = rw (c.from.ensures, c.slot_at.ensures.place) refl
