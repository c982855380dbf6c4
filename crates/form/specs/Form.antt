-- The written form as a set of texts (01, "The flat book"; 02, [7]), and how far a text goes on in it.
use Rattle.std.specs.Prelude.{ℕ, ◌≤◌, ◌<◌, ◌≡◌, List, ◌++◌, length, get_or, take}
use Rattle.ccg.specs.Ccg.{Line, no_line}
use Rattle.ccg.specs.Text.{grammar_text}
use Rattle.ccg.specs.Written.{WrittenForm}
use Rattle.layout.specs.Limits.{production_limit, argument_limit}

-- A character class grammar that a flat text can say: at least one line and not too many, not too many arguments in any, each line with its own number, and in
-- each class only characters or only numbers that a line could have.
pub record Writable (g : List Line) : Type 0 where
  pub some : 1 ≤ length g
  pub few : length g ≤ production_limit
  pub few_arguments : (p : ℕ) → p < length g → length (get_or g p no_line).arguments ≤ argument_limit
  pub form : WrittenForm g

-- The text says the grammar.
pub record Says (text : List ℕ) (g : List Line) : Type 0 where
  pub writable : Writable g
  pub is_text : text ≡ grammar_text g

-- A text in the written form: it says some grammar.
abbrev pub InForm : List ℕ → Type 0
InForm text = (g : List Line) × Says text g

-- Some text in the form begins so.
abbrev pub Viable : List ℕ → Type 0
Viable front = (rest : List ℕ) × InForm (front ++ rest)

-- The place of refusal 27: how long the longest beginning is that some text in the form has too. It is the whole length of a text that is only cut short.
pub record LongestViable (text : List ℕ) (k : ℕ) : Type 0 where
  pub within : k ≤ length text
  pub viable : Viable (take k text)
  pub longest : (n : ℕ) → n ≤ length text → Viable (take n text) → n ≤ k

-- Refusal 27: the text is not in the written form; the place is how far one in the form begins so.
pub record NotInForm (text : List ℕ) (place : ℕ) : Type 0 where
  pub outside : InForm text → ⊥
  pub longest : LongestViable text place
