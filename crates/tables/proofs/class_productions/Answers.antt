-- `class_productions` meets its contract: the words behind those of the characters.
use Prim.Native.Nat.{ℕ, ◌+◌, ◌/◌, ◌%◌}
use mathlib.Core.Path.{◌∙◌, ap}
use lib.ListN.{get_or}
use Rattle.charset.specs.Set.{bit, word_bits, set_words}
use Rattle.tables.specs.Layout.{takes_production}
use Rattle.tables.proofs.class_productions.Goals as goal

pub returns : goal.returns
unfolding takes_production
returns c = λ x l. c.read.ensures x l ∙ ap (λ (at : ℕ). bit (get_or c.args.tables.now (at + set_words + x / word_bits) 0) (x % word_bits)) c.slot_at.ensures.place
