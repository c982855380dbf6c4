-- Numbers in base ten.
use Rattle.std.specs.Prelude.{ℕ, zero, suc, ◌+◌, ◌-◌, ◌*◌, ◌/◌, ◌%◌, cond, List, [], ◌∷◌, ◌++◌, ltb, length}
use Rattle.common.specs.Lists.{tabulate}
use Rattle.writing.specs.Bytes.{space}

-- the digit 0; the others follow it
abbrev pub digit_zero : ℕ
digit_zero = 48

abbrev pub numeral_base : ℕ
numeral_base = 10

-- The digits of n in base ten, at most fuel + 1 of them.
unfoldable pub decimal : ℕ → ℕ → List ℕ
decimal zero n = (digit_zero + n) ∷ []
decimal (suc fuel) n = cond (ltb n numeral_base) ((digit_zero + n) ∷ []) (decimal fuel (n / numeral_base) ++ ((digit_zero + n % numeral_base) ∷ []))

-- n in base ten, no leading zeros.
unfoldable pub numeral : ℕ → List ℕ
numeral n = decimal n n

-- n set right in so many columns: spaces, then its numeral.
unfoldable pub set_right : (width n : ℕ) → List ℕ
set_right width n = tabulate (width - length (numeral n)) (λ k. space) ++ numeral n

-- ---- the number that digits say

-- Digits from left to right, behind those that say v. What is below the digit 0 has the value 0, so a space before the digits counts as nothing.
unfoldable pub value_from : ℕ → List ℕ → ℕ
value_from v [] = v
value_from v (d ∷ ds) = value_from (v * numeral_base + (d - digit_zero)) ds

unfoldable pub value_of : List ℕ → ℕ
value_of ds = value_from 0 ds
