-- What the operation "writing a character class grammar" (01's writing a flat book) answers.
use Rattle.std.specs.Prelude.{ℕ, List, length, Result}
use Rattle.ccg.specs.Text.{grammar_text}
use Rattle.flatten.specs.Flat.{flat_grammar}
use Rattle.refusal.specs.Verdict.{unless_refused}
use Rattle.priority.specs.Check.{checked}
use Rattle.writing.specs.Answer.{fitted}
use Rattle.refusal.specs.declared.Fault.TheVariants.{LongFlat}
use Rattle.refusal.specs.declared.Refusal.{Refusal}

-- the refusals of the grammar, then 21 if the text is longer than the buffer; the place is how many bytes it needs
unfoldable pub flat_answer : List ℕ → ℕ → Result ℕ Refusal
flat_answer b room = unless_refused (checked b) (fitted LongFlat (length (grammar_text (flat_grammar b))) room)
