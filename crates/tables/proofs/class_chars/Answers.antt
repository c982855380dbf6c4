-- `class_chars` meets its contract: the four words of the slot.
use Prim.Native.Nat.{ℕ, ◌+◌, ◌/◌, ◌%◌}
use mathlib.Core.Path.{◌∙◌, ap}
use lib.ListN.{get_or}
use Rattle.charset.specs.Set.{bit, word_bits}
use Rattle.tables.specs.Layout.{takes_char}
use Rattle.tables.proofs.class_chars.Goals as goal

pub returns : goal.returns
unfolding takes_char
returns c = λ x l. c.read.ensures x l ∙ ap (λ (at : ℕ). bit (get_or c.args.tables.now (at + x / word_bits) 0) (x % word_bits)) c.slot_at.ensures.place
