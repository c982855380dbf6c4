-- Laws of numerals.
use Prim.Native.Nat.{ℕ, zero, suc, ◌+◌, ◌-◌, ◌*◌, ◌/◌, ◌%◌, ◌^◌, ◌≤◌, ◌<◌}
use mathlib.Core.List.{List, [], ◌∷◌, ◌++◌}
use mathlib.Core.Logic.{by_cases}
use mathlib.Core.Path.{◌≡◌, refl, sym, ◌∙◌, ap}
use native.Mathlib.Decide.{dec_lt}
use native.Mathlib.Nat.{le_refl, pow-suc}
use native.Mathlib.Omega.{arith}
use lib.ListN.{length, get_or, length-append, get_or-append}
use borrow.Author.Tests.{lt-ltb, le-ltb}
use Rattle.common.proofs.ListLaws.{length_tabulate}
use Rattle.common.specs.Lists.{tabulate}
use Rattle.writing.specs.Bytes.{space}
use Rattle.writing.specs.Numeral.{digit_zero, numeral_base, decimal, numeral, set_right, value_from, value_of}

decimal_small : (fuel n : ℕ) → n < numeral_base → decimal fuel n ≡ (digit_zero + n) ∷ []
unfolding decimal
decimal_small zero n h = refl
decimal_small (suc fuel) n h = rw (lt-ltb n numeral_base h) refl

decimal_more : (fuel n : ℕ) → numeral_base ≤ n → decimal (suc fuel) n ≡ decimal fuel (n / numeral_base) ++ ((digit_zero + n % numeral_base) ∷ [])
unfolding decimal
decimal_more fuel n h = rw (le-ltb n numeral_base h) refl

-- fuel that is enough does not matter
decimal_fuel : (f g n : ℕ) → n ≤ f → n ≤ g → decimal f n ≡ decimal g n
decimal_fuel zero g n h k = decimal_small zero n (omega arith) ∙ sym (decimal_small g n (omega arith))
decimal_fuel (suc f) zero n h k = decimal_small (suc f) n (omega arith) ∙ sym (decimal_small zero n (omega arith))
decimal_fuel (suc f) (suc g) n h k =
    by_cases (dec_lt n numeral_base)
    (λ l. decimal_small (suc f) n l ∙ sym (decimal_small (suc g) n l))
    (λ l. rw (decimal_more f n (omega arith), decimal_more g n (omega arith), decimal_fuel f g (n / numeral_base) (omega arith) (omega arith)) refl)

pub numeral_small : (n : ℕ) → n < numeral_base → numeral n ≡ (digit_zero + n) ∷ []
unfolding numeral
numeral_small n h = decimal_small n n h

pub numeral_more : (n : ℕ) → numeral_base ≤ n → numeral n ≡ numeral (n / numeral_base) ++ ((digit_zero + n % numeral_base) ∷ [])
unfolding numeral
numeral_more zero h = absurd (omega arith)
numeral_more (suc m) h = decimal_more m (suc m) h ∙ rw (decimal_fuel m (suc m / numeral_base) (suc m / numeral_base) (omega arith) (le_refl (suc m / numeral_base))) refl

-- ---- how long a numeral is

pub numeral_length_small : (n : ℕ) → n < numeral_base → length (numeral n) ≡ 1
numeral_length_small n h = ap (length {A = ℕ}) (numeral_small n h)

pub numeral_length_more : (n : ℕ) → numeral_base ≤ n → length (numeral n) ≡ length (numeral (n / numeral_base)) + 1
numeral_length_more n h = ap (length {A = ℕ}) (numeral_more n h) ∙ length-append (numeral (n / numeral_base)) ((digit_zero + n % numeral_base) ∷ [])

decimal_short : (fuel n : ℕ) → length (decimal fuel n) ≤ fuel + 1
unfolding decimal
decimal_short zero n = le_refl 1
decimal_short (suc fuel) n =
    by_cases (dec_lt n numeral_base)
    (λ l. rw (decimal_small (suc fuel) n l) (omega arith))
    (λ l. rw (decimal_more fuel n (omega arith), length-append (decimal fuel (n / numeral_base)) ((digit_zero + n % numeral_base) ∷ [])) (omega (arith, decimal_short fuel (n / numeral_base))))

pub numeral_short : (n : ℕ) → length (numeral n) ≤ n + 1
unfolding numeral
numeral_short n = decimal_short n n

decimal_some : (fuel n : ℕ) → 0 < length (decimal fuel n)
unfolding decimal
decimal_some zero n = omega arith
decimal_some (suc fuel) n =
    by_cases (dec_lt n numeral_base)
    (λ l. rw (decimal_small (suc fuel) n l) (omega arith))
    (λ l. rw (decimal_more fuel n (omega arith), length-append (decimal fuel (n / numeral_base)) ((digit_zero + n % numeral_base) ∷ [])) (omega arith))

pub numeral_some : (n : ℕ) → 0 < length (numeral n)
unfolding numeral
numeral_some n = decimal_some n n

-- a number below a power of ten has no more digits than the power has zeros
pub numeral_fits : (k n : ℕ) → n < numeral_base ^ (suc k) → length (numeral n) ≤ suc k
numeral_fits zero n h = omega (arith, numeral_length_small n (omega arith))
numeral_fits (suc k) n h =
    by_cases (dec_lt n numeral_base)
    (λ l. omega (arith, numeral_length_small n l))
    (λ l. omega (arith, numeral_length_more n (omega arith), numeral_fits k (n / numeral_base) (omega (arith, pow-suc numeral_base (suc k)))))

-- ---- the number that digits say

value_append : (v : ℕ) (ds es : List ℕ) → value_from v (ds ++ es) ≡ value_from (value_from v ds) es
unfolding value_from
value_append v [] es = refl
value_append v (d ∷ ds) es = value_append (v * numeral_base + (d - digit_zero)) ds es

value_one : (v d : ℕ) → value_from v ((digit_zero + d) ∷ []) ≡ v * numeral_base + d
unfolding value_from
value_one v d = omega arith

decimal_value : (fuel n : ℕ) → n ≤ fuel → value_from 0 (decimal fuel n) ≡ n
decimal_value zero n h = rw (decimal_small zero n (omega arith), value_one 0 n) (omega arith)
decimal_value (suc fuel) n h =
    by_cases (dec_lt n numeral_base)
    (λ l. rw (decimal_small (suc fuel) n l, value_one 0 n) (omega arith))
    (λ l. rw (decimal_more fuel n (omega arith), value_append 0 (decimal fuel (n / numeral_base)) ((digit_zero + n % numeral_base) ∷ []), decimal_value fuel (n / numeral_base) (omega arith), value_one (n / numeral_base) (n % numeral_base)) (omega arith))

-- a numeral says its number
pub numeral_value : (n : ℕ) → value_of (numeral n) ≡ n
unfolding value_of numeral
numeral_value n = decimal_value n n (le_refl n)

decimal_leading : (fuel n : ℕ) → n ≤ fuel → get_or (decimal fuel n) 0 0 ≡ digit_zero → n ≡ 0
decimal_leading zero n h e = omega arith
decimal_leading (suc fuel) n h e =
    by_cases (dec_lt n numeral_base)
    (λ l. omega (arith, rw (decimal_small (suc fuel) n l) at e))
    (λ l. let front = get_or-append (decimal fuel (n / numeral_base)) ((digit_zero + n % numeral_base) ∷ []) 0 0 (decimal_some fuel (n / numeral_base)) in
    omega (arith, decimal_leading fuel (n / numeral_base) (omega arith) (sym front ∙ rw (decimal_more fuel n (omega arith)) at e)))

-- only 0 begins with the digit 0
pub numeral_leading : (n : ℕ) → get_or (numeral n) 0 0 ≡ digit_zero → n ≡ 0
unfolding numeral
numeral_leading n e = decimal_leading n n (le_refl n) e

-- ---- set right

-- a numeral that is longer than the width has no spaces before it
pub set_right_long : (width n : ℕ) → length (set_right width n) ≡ width - length (numeral n) + length (numeral n)
unfolding set_right
set_right_long width n =
    let left = width - length (numeral n) in
    length-append (tabulate left (λ k. space)) (numeral n) ∙ ap (λ (k : ℕ). k + length (numeral n)) (length_tabulate left (λ k. space))

pub set_right_length : (width n : ℕ) → length (numeral n) ≤ width → length (set_right width n) ≡ width
set_right_length width n h = omega (arith, set_right_long width n)

-- spaces say 0
spaces_value : (k : ℕ) → value_from 0 (tabulate k (λ i. space)) ≡ 0
unfolding tabulate value_from
spaces_value zero = refl
spaces_value (suc k) = value_append 0 (tabulate k (λ i. space)) (space ∷ []) ∙ rw (spaces_value k) refl

-- a numeral set right says its number
pub set_right_value : (width n : ℕ) → value_of (set_right width n) ≡ n
unfolding set_right value_of
set_right_value width n =
    let left = width - length (numeral n) in
    value_append 0 (tabulate left (λ k. space)) (numeral n) ∙ rw (spaces_value left) (numeral_value n)
