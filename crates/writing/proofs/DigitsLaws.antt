-- Laws of digits, and of the numerals that stand in a text.
use Prim.Native.Nat.{ℕ, zero, suc, ◌+◌, ◌-◌, ◌*◌, ◌/◌, ◌%◌, ◌≤◌, ◌<◌}
use mathlib.Core.Bool.{false, true}
use mathlib.Core.List.{List, [], ◌∷◌, ◌++◌, append_assoc, append-nil}
use mathlib.Core.Logic.{⊎_elim, by_cases}
use mathlib.Core.Path.{◌≡◌, refl, sym, ◌∙◌, ap}
use native.Mathlib.Decide.{dec_lt}
use native.Mathlib.Nat.{le_refl}
use native.Mathlib.Omega.{arith}
use lib.ListN.{length}
use lib.Seq.{append_snoc}
use Rattle.common.proofs.AllLaws.{all_append}
use Rattle.common.proofs.BelowLaws.{between_in, between_ends}
use Rattle.common.proofs.BoolLaws.{true_or_false}
use Rattle.common.specs.Lists.{All, tabulate}
use Rattle.writing.proofs.NumeralLaws.{numeral_small, numeral_more, numeral_length_small, numeral_some, numeral_value, numeral_leading}
use Rattle.writing.specs.Bytes.{space}
use Rattle.writing.specs.Digits.{digit_nine, Digit, is_digit, Plain, as_numerals, numerals_behind, numerals_in}
use Rattle.writing.specs.Numeral.{digit_zero, numeral_base, numeral, set_right, value_from, value_of}

-- ---- a numeral has nothing but digits

digits_of : (fuel n : ℕ) → n ≤ fuel → All Digit (numeral n)
digits_of zero n l = rw (numeral_small n (omega arith)) (omega arith)
digits_of (suc fuel) n l =
    by_cases (dec_lt n numeral_base)
    (λ h. rw (numeral_small n h) (omega arith))
    (λ h. rw (numeral_more n (omega arith)) (all_append Digit (numeral (n / numeral_base)) ((digit_zero + n % numeral_base) ∷ []) (digits_of fuel (n / numeral_base) (omega arith)) (omega arith)))

pub numeral_digits : (n : ℕ) → All Digit (numeral n)
numeral_digits n = digits_of n n (le_refl n)

-- it is one digit, or begins with another than 0
pub numeral_plain : (n : ℕ) → Plain (numeral n)
numeral_plain n =
    record {
      digits = numeral_digits n;
      some = numeral_some n;
      leading = λ e. numeral_length_small n (omega (arith, numeral_leading n e));
    }

-- ---- and no other digits say its number

-- as many digits that say the same are the same
same_digits : (v u : ℕ) (ds es : List ℕ) → length ds ≡ length es → All Digit ds → All Digit es → value_from v ds ≡ value_from u es → (v ≡ u) × (ds ≡ es)
unfolding value_from
same_digits v u [] [] l h k e = (e, refl)
same_digits v u [] (d ∷ es) l h k e = absurd (omega arith)
same_digits v u (c ∷ ds) [] l h k e = absurd (omega arith)
same_digits v u (c ∷ ds) (d ∷ es) l h k e =
    let (front, rest) = same_digits (v * numeral_base + (c - digit_zero)) (u * numeral_base + (d - digit_zero)) ds es (omega arith) h.1 k.1 e in
    let one : c ≡ d = omega arith in
    (omega arith, λ i. one i ∷ rest i)

-- as many digits, behind those that say less, say less
less_digits : (v u : ℕ) (ds es : List ℕ) → v < u → length ds ≡ length es → All Digit ds → value_from v ds < value_from u es
unfolding value_from
less_digits v u [] [] l m h = l
less_digits v u [] (d ∷ es) l m h = absurd (omega arith)
less_digits v u (c ∷ ds) [] l m h = absurd (omega arith)
less_digits v u (c ∷ ds) (d ∷ es) l m h = less_digits (v * numeral_base + (c - digit_zero)) (u * numeral_base + (d - digit_zero)) ds es (omega arith) (omega arith) h.1

-- so do fewer of them
fewer_digits : (u : ℕ) (ds es : List ℕ) → 0 < u → length ds ≤ length es → All Digit ds → value_from 0 ds < value_from u es
unfolding value_from
fewer_digits u ds [] l m h = less_digits 0 u ds [] l (omega arith) h
fewer_digits u ds (e ∷ es) l m h =
    by_cases (dec_lt (length ds) (length (e ∷ es)))
    (λ k. fewer_digits (u * numeral_base + (e - digit_zero)) ds es (omega arith) (omega arith) h)
    (λ k. less_digits 0 u ds (e ∷ es) l (omega arith) h)

-- plain digits that say the same are no fewer
no_fewer : (ds es : List ℕ) → Plain ds → Plain es → value_of ds ≡ value_of es → length es ≤ length ds
unfolding value_from value_of
no_fewer ds [] p q e = omega arith
no_fewer ds (d ∷ es) p q e =
    by_cases (dec_lt (length ds) (length (d ∷ es)))
    (λ l. by_cases (dec_lt digit_zero d)
    (λ k. absurd (omega (arith, e, fewer_digits (0 * numeral_base + (d - digit_zero)) ds es (omega arith) (omega arith) p.digits)))
    (λ k. let zero : d ≡ digit_zero = omega (arith, q.digits.0) in absurd (omega (arith, q.leading zero, p.some))))
    (λ l. omega arith)

-- a number has one numeral
pub plain_only : (ds es : List ℕ) → Plain ds → Plain es → value_of ds ≡ value_of es → ds ≡ es
unfolding value_of
plain_only ds es p q e = (same_digits 0 0 ds es (omega (arith, no_fewer ds es p q e, no_fewer es ds q p (sym e))) p.digits q.digits e).1

pub numeral_only : (n : ℕ) (ds : List ℕ) → Plain ds → value_of ds ≡ n → ds ≡ numeral n
numeral_only n ds p e = plain_only ds (numeral n) p (numeral_plain n) (e ∙ sym (numeral_value n))

-- ---- digits in front of what is none

-- what may follow a numeral: nothing, or no digit
abbrev pub NoDigit : List ℕ → Type 0
NoDigit [] = Unit {0}
NoDigit (c ∷ s) = Digit c → ⊥

digit_passes : (c : ℕ) → Digit c → is_digit c ≡ true
unfolding is_digit
digit_passes c (l, h) = between_in digit_zero digit_nine c l h

other_fails : (c : ℕ) → (Digit c → ⊥) → is_digit c ≡ false
unfolding is_digit
other_fails c n = ⊎_elim (λ e. absurd (n (between_ends digit_zero digit_nine c e))) (λ e. e) (true_or_false (is_digit c))

-- digits are read one after the other
digits_read : (ds es s : List ℕ) → All Digit es → numerals_behind ds (es ++ s) ≡ numerals_behind (ds ++ es) s
unfolding numerals_behind
digits_read ds [] s h = ap (λ (x : List ℕ). numerals_behind x s) (sym (append-nil ds))
digits_read ds (e ∷ es) s h =
    rw (digit_passes e h.0) (digits_read (ds ++ (e ∷ [])) es s h.1 ∙ ap (λ (x : List ℕ). numerals_behind x s) (append_snoc ds e es))

-- where they end, they are a numeral
digits_end : (ds s : List ℕ) → NoDigit s → numerals_behind ds s ≡ as_numerals ds ++ numerals_in s
unfolding numerals_in numerals_behind as_numerals
digits_end ds [] n = sym (append-nil (as_numerals ds))
digits_end ds (c ∷ s) n = rw (other_fails c n) refl

as_numerals_some : (ds : List ℕ) → 0 < length ds → as_numerals ds ≡ ds ∷ []
unfolding as_numerals
as_numerals_some [] l = absurd (omega arith)
as_numerals_some (d ∷ ds) l = refl

-- ---- the numerals of a text

pub numerals_none : numerals_in [] ≡ []
unfolding numerals_in numerals_behind as_numerals
numerals_none = refl

-- a byte that is no digit is passed over
pub numerals_pass : (c : ℕ) (s : List ℕ) → (Digit c → ⊥) → numerals_in (c ∷ s) ≡ numerals_in s
unfolding numerals_in numerals_behind as_numerals
numerals_pass c s n = rw (other_fails c n) refl

-- a numeral in front of what is no digit is found whole
pub numerals_first : (n : ℕ) (s : List ℕ) → NoDigit s → numerals_in (numeral n ++ s) ≡ numeral n ∷ numerals_in s
unfolding numerals_in
numerals_first n s h = digits_read [] (numeral n) s (numeral_digits n) ∙ digits_end (numeral n) s h ∙ ap (λ (x : List (List ℕ)). x ++ numerals_in s) (as_numerals_some (numeral n) (numeral_some n))

numerals_spaces : (k : ℕ) (s : List ℕ) → numerals_in (tabulate k (λ i. space) ++ s) ≡ numerals_in s
unfolding tabulate
numerals_spaces zero s = refl
numerals_spaces (suc k) s =
    ap numerals_in (append_snoc (tabulate k (λ i. space)) space s) ∙ numerals_spaces k (space ∷ s) ∙ numerals_pass space s (λ d. omega arith)

-- and so is one that is set right
pub numerals_right : (width n : ℕ) (s : List ℕ) → NoDigit s → numerals_in (set_right width n ++ s) ≡ numeral n ∷ numerals_in s
unfolding set_right
numerals_right width n s h =
    let spaces = tabulate (width - length (numeral n)) (λ k. space) in
    ap numerals_in (append_assoc spaces (numeral n) s) ∙ numerals_spaces (width - length (numeral n)) (numeral n ++ s) ∙ numerals_first n s h
