-- Which character class grammars the written form can say (01, "The flat book").
use Rattle.std.specs.Prelude.{ℕ, ◌≤◌, ◌<◌, ◌≡◌, true, List, ◌⊎◌, length, get_or}
use Rattle.ccg.specs.Ccg.{Class, Line, no_line, no_class, OwnNumbers}
use Rattle.ccg.specs.Text.{number_limit}
use Rattle.charset.specs.Set.{characters}
use Rattle.theory.specs.Tree.{production_number}

-- A class of characters only.
abbrev pub OnlyCharacters : Class → Type 0
OnlyCharacters cc = (n : ℕ) → cc n ≡ true → n < characters

-- A class of production numbers only: any that a production could have.
abbrev pub OnlyProductions : Class → Type 0
OnlyProductions cc = (n : ℕ) → cc n ≡ true → (production_number 0 ≤ n) × (n < number_limit)

-- A class that a text can say: one of characters, one of production numbers, or an empty one, which is both.
abbrev pub OneKind : Class → Type 0
OneKind cc = OnlyCharacters cc ⊎ OnlyProductions cc

-- Every line has its own number; every class has only characters, or only numbers of productions.
pub record WrittenForm (g : List Line) : Type 0 where
  pub numbered : OwnNumbers g
  pub classes : (p i : ℕ) → p < length g → i < length (get_or g p no_line).arguments → OneKind (get_or (get_or g p no_line).arguments i no_class)
