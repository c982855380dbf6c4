-- The end of a line, byte by byte.
use Prim.Native.Nat.{ℕ, ◌+◌, ◌/◌, ◌%◌, ◌<◌}
use mathlib.Core.List.{[], ◌∷◌}
use mathlib.Core.Path.{◌≡◌, refl, ap}
use native.Mathlib.Omega.{arith}
use lib.ListN.{length, get_or}
use Rattle.ccg.proofs.TextLaws.{one_text}
use Rattle.ccg.specs.Text.{dash, greater, bracket_open, backslash, bracket_close, result_text}
use Rattle.form.specs.Step.{ending_length, ending_byte}
use Rattle.layout.specs.Limits.{production_limit}
use Rattle.theory.specs.Tree.{production_number}
use Rattle.writing.proofs.NumeralLaws.{numeral_small, numeral_more}
use Rattle.writing.specs.Bytes.{line_feed, space}
use Rattle.writing.specs.Numeral.{digit_zero, numeral}

-- the numeral of a line's number has three digits
three_digits : (n : ℕ) → 99 < n → n < 1000 → numeral n ≡ (digit_zero + n / 100) ∷ (digit_zero + n / 10 % 10) ∷ (digit_zero + n % 10) ∷ []
three_digits n l h =
    let hundreds : n / 10 / 10 ≡ n / 100 = omega arith in
    rw (numeral_more n (omega arith), numeral_more (n / 10) (omega arith), numeral_small (n / 10 / 10) (omega arith), hundreds) refl

pub ending_bytes : (r : ℕ) → r < production_limit
    → let n = production_number r in result_text n ≡ dash ∷ greater ∷ space ∷ bracket_open ∷ backslash ∷ (digit_zero + n / 100) ∷ (digit_zero + n / 10 % 10) ∷ (digit_zero + n % 10) ∷ bracket_close ∷ line_feed ∷ []
unfolding result_text
ending_bytes r h = rw (one_text (production_number r) (omega arith), three_digits (production_number r) (omega arith) (omega arith)) refl

pub ending_long : (r : ℕ) → r < production_limit → length (result_text (production_number r)) ≡ ending_length
ending_long r h = ap (length {A = ℕ}) (ending_bytes r h)

-- a byte of it, from three digits that are the number's
pub ending_at : (r k a b c : ℕ) → r < production_limit → let n = production_number r in a ≡ digit_zero + n / 100 → b ≡ digit_zero + n / 10 % 10 → c ≡ digit_zero + n % 10
    → get_or (dash ∷ greater ∷ space ∷ bracket_open ∷ backslash ∷ a ∷ b ∷ c ∷ bracket_close ∷ line_feed ∷ []) k 0 ≡ ending_byte r k
unfolding ending_byte
ending_at r k a b c h first second third = rw (ending_bytes r h, first, second, third) refl
