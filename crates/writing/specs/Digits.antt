-- Digits, and the numerals that stand in a text (02, [6]).
use Rattle.std.specs.Prelude.{ℕ, ◌≤◌, ◌<◌, ◌≡◌, Bool, cond, List, [], ◌∷◌, ◌++◌, length, get_or}
use Rattle.common.specs.Below.{between}
use Rattle.common.specs.Lists.{All}
use Rattle.writing.specs.Numeral.{digit_zero}

abbrev pub digit_nine : ℕ
digit_nine = 57

-- A byte that is a digit, as a statement and as a test.
abbrev pub Digit : ℕ → Type 0
Digit c = (digit_zero ≤ c) × (c ≤ digit_nine)

unfoldable pub is_digit : ℕ → Bool
is_digit = between digit_zero digit_nine

-- Digits as a number is written: at least one of them, and a 0 only begins them if it is the only one.
pub record Plain (ds : List ℕ) : Type 0 where
  pub digits : All Digit ds
  pub some : 0 < length ds
  pub leading : get_or ds 0 0 ≡ digit_zero → length ds ≡ 1

-- ---- the numerals of a text, from left to right

-- what digits that were read are: a numeral, if there are any
unfoldable pub as_numerals : List ℕ → List (List ℕ)
as_numerals [] = []
as_numerals (d ∷ ds) = (d ∷ ds) ∷ []

-- the numerals of a text that goes on behind the digits ds
unfoldable pub numerals_behind : (ds text : List ℕ) → List (List ℕ)
numerals_behind ds [] = as_numerals ds
numerals_behind ds (c ∷ text) = cond (is_digit c) (numerals_behind (ds ++ (c ∷ [])) text) (as_numerals ds ++ numerals_behind [] text)

-- The numerals of a text: its longest runs of digits.
unfoldable pub numerals_in : List ℕ → List (List ℕ)
numerals_in text = numerals_behind [] text
