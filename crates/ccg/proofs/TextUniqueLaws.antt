-- What a text of the written form says is known by the text: numerals, ranges, classes and lines can be read off its front.
use Prim.Native.Nat.{ℕ, suc, ◌≤◌, ◌<◌}
use mathlib.Core.Path.{◌≡◌, refl, sym, ◌∙◌, ap, fun_ext}
use mathlib.Core.Bool.{Bool, false, true, cond}
use mathlib.Core.List.{List, [], ◌∷◌, ◌++◌, append_assoc, append-nil, append_cancel_left, head-eq_of_cons-eq, tail-eq_of_cons-eq}
use mathlib.Core.Logic.{by_cases}
use native.Mathlib.Omega.{arith}
use native.Mathlib.Decide.{ℕ_discrete, dec_lt}
use lib.Dec.{eqb}
use lib.ListN.{length, get_or, length-append}
use borrow.Author.Tests.{eq-eqb, ne_eqb}
use Rattle.ccg.specs.Ccg.{Class, Line, no_class}
use Rattle.ccg.specs.Text.{dash, bracket_open, backslash, bracket_close, range_text, number_limit, class_text, arguments_text, result_text, line_text}
use Rattle.charset.proofs.RunLaws.{runs_covered}
use Rattle.charset.specs.Runs.{Range, runs, covered}
use Rattle.common.specs.Lists.{joined}
use Rattle.writing.proofs.DigitsLaws.{NoDigit, numerals_first}
use Rattle.writing.proofs.NumeralLaws.{numeral_value}
use Rattle.writing.specs.Bytes.{space}
use Rattle.writing.specs.Digits.{digit_nine, numerals_in}
use Rattle.writing.specs.Numeral.{numeral, value_of}

-- ---- numerals

-- a numeral can be read off
numeral_part : (n m : ℕ) (s t : List ℕ) → NoDigit s → NoDigit t → numeral n ++ s ≡ numeral m ++ t → (n ≡ m) × (s ≡ t)
numeral_part n m s t a b e =
    let same : numeral n ≡ numeral m = head-eq_of_cons-eq (sym (numerals_first n s a) ∙ ap numerals_in e ∙ numerals_first m t b) in
    (sym (numeral_value n) ∙ ap value_of same ∙ numeral_value m, append_cancel_left (numeral m) s t (rw same at e))

-- ---- ranges

-- what may follow a range: nothing, or a byte above the digits
abbrev Above : List ℕ → Type 0
Above [] = Unit {0}
Above (c ∷ s) = digit_nine < c

-- such a text may follow a numeral too
above_no_digit : (s : List ℕ) → Above s → NoDigit s
above_no_digit [] h = tt
above_no_digit (c ∷ s) h = λ d. omega arith

-- the part of a range's text behind its low end
high_text : ℕ → ℕ → List ℕ
high_text low high = cond (eqb low high) [] (dash ∷ backslash ∷ numeral high)

-- nothing for a range of one number
high_one : (l h : ℕ) → l ≡ h → high_text l h ≡ []
unfolding high_text
high_one l h e = rw (eq-eqb l h e) refl

-- the high end of a longer one
high_more : (l h : ℕ) → (l ≡ h → ⊥) → high_text l h ≡ dash ∷ backslash ∷ numeral h
unfolding high_text
high_more l h n = rw (ne_eqb l h n) refl

-- a low end, and then the high one
range_text_lem : (r : Range) → range_text r ≡ backslash ∷ (numeral r.low ++ high_text r.low r.high)
unfolding range_text high_text
range_text_lem r =
    let low = numeral r.low in
    let high = dash ∷ backslash ∷ numeral r.high in
    elim (eqb r.low r.high) as (λ (b : Bool). cond b (backslash ∷ low) (backslash ∷ low ++ high) ≡ backslash ∷ (low ++ cond b [] high))
    [ true ↦ sym (append-nil (backslash ∷ low)) | false ↦ refl ]

-- a dash is below the digits
no_dash : (s x : List ℕ) → Above s → s ≡ dash ∷ x → ⊥
no_dash s x a e = let b : Above (dash ∷ x) = rw e at a in omega arith

-- what follows a low end is no digit
high_no_digit : (l h : ℕ) (s : List ℕ) → Above s → NoDigit (high_text l h ++ s)
high_no_digit l h s a =
    elim (ℕ_discrete l h) [
      | yes e ↦ rw (high_one l h e) (above_no_digit s a)
      | no n ↦ rw (high_more l h n) (λ d. omega arith)
    ]

-- behind a known low end, a high end can be read off
high_part : (l h k : ℕ) (s t : List ℕ) → Above s → Above t → high_text l h ++ s ≡ high_text l k ++ t → (h ≡ k) × (s ≡ t)
high_part l h k s t a b e =
    elim (ℕ_discrete l h) [
      | yes m ↦ elim (ℕ_discrete l k) [
        | yes n ↦ (sym m ∙ n, rw (high_one l h m, high_one l k n) at e)
        | no n ↦ absurd (no_dash s (backslash ∷ (numeral k ++ t)) a (rw (high_one l h m, high_more l k n) at e))
      ]
      | no m ↦ elim (ℕ_discrete l k) [
        | yes n ↦ absurd (no_dash t (backslash ∷ (numeral h ++ s)) b (sym (rw (high_more l h m, high_one l k n) at e)))
        | no n ↦ numeral_part h k s t (above_no_digit s a) (above_no_digit t b)
            (tail-eq_of_cons-eq (tail-eq_of_cons-eq (rw (high_more l h m, high_more l k n) at e)))
      ]
    ]

-- a range can be read off
range_part : (r q : Range) (s t : List ℕ) → Above s → Above t → range_text r ++ s ≡ range_text q ++ t → (r ≡ q) × (s ≡ t)
range_part r q s t a b e =
    let high = high_text r.low r.high in
    let high₂ = high_text q.low q.high in
    let tails = tail-eq_of_cons-eq (rw (range_text_lem r, range_text_lem q) at e) in
    let (low, rest) = numeral_part r.low q.low (high ++ s) (high₂ ++ t) (high_no_digit r.low r.high s a) (high_no_digit q.low q.high t b)
    (sym (append_assoc (numeral r.low) high s) ∙ tails ∙ append_assoc (numeral q.low) high₂ t) in
    let (top, after) = high_part q.low r.high q.high s t a b (rw low at rest) in
    (λ i. record { low = low i; high = top i }, after)

-- ---- classes

-- what follows a range in a class
ranges_above : (rs : List Range) (s : List ℕ) → Above (joined range_text rs ++ bracket_close ∷ s)
unfolding joined
ranges_above [] s = omega arith
ranges_above (r ∷ rs) s = rw (range_text_lem r) (omega arith)

-- no range begins where the class ends
no_close : (r : Range) (s x : List ℕ) → bracket_close ∷ s ≡ range_text r ++ x → ⊥
no_close r s x e = let b : bracket_close ≡ backslash = head-eq_of_cons-eq (rw (range_text_lem r) at e) in omega arith

-- a range, the other ranges
ranges_more : (r : Range) (rs : List Range) (s : List ℕ) → joined range_text (r ∷ rs) ++ s ≡ range_text r ++ (joined range_text rs ++ s)
unfolding joined
ranges_more r rs s = append_assoc (range_text r) (joined range_text rs) s

-- the ranges of a class can be read off
ranges_part : (rs qs : List Range) (s t : List ℕ) → joined range_text rs ++ bracket_close ∷ s ≡ joined range_text qs ++ bracket_close ∷ t → (rs ≡ qs) × (s ≡ t)
unfolding joined
ranges_part [] [] s t e = (refl, tail-eq_of_cons-eq e)
ranges_part [] (q ∷ qs) s t e = let y = bracket_close ∷ t in absurd (no_close q s (joined range_text qs ++ y) (e ∙ ranges_more q qs y))
ranges_part (r ∷ rs) [] s t e = let x = bracket_close ∷ s in absurd (no_close r t (joined range_text rs ++ x) (sym e ∙ ranges_more r rs x))
ranges_part (r ∷ rs) (q ∷ qs) s t e =
    let x = bracket_close ∷ s in
    let y = bracket_close ∷ t in
    let (first, rest) = range_part r q (joined range_text rs ++ x) (joined range_text qs ++ y) (ranges_above rs s) (ranges_above qs t)
    (sym (ranges_more r rs x) ∙ e ∙ ranges_more q qs y) in
    let (others, after) = ranges_part rs qs s t rest in
    (λ i. first i ∷ others i, after)

-- A class that has only numbers that a text can say.
abbrev pub Sayable : Class → Type 0
Sayable cc = (n : ℕ) → number_limit ≤ n → cc n ≡ false

-- such a class is known by its ranges
class_of_ranges : (cc dd : Class) → Sayable cc → Sayable dd → runs cc 0 number_limit ≡ runs dd 0 number_limit → cc ≡ dd
class_of_ranges cc dd h k e =
    fun_ext λ n. by_cases (dec_lt n number_limit)
    (λ l. sym (runs_covered cc 0 number_limit n (omega arith) (omega arith)) ∙ ap (λ (rs : List Range). covered rs n) e ∙ runs_covered dd 0 number_limit n (omega arith) (omega arith))
    (λ m. h n (omega arith) ∙ sym (k n (omega arith)))

-- a class can be read off
class_part : (cc dd : Class) (s t : List ℕ) → Sayable cc → Sayable dd → class_text cc ++ s ≡ class_text dd ++ t → (cc ≡ dd) × (s ≡ t)
unfolding class_text
class_part cc dd s t h k e =
    let rs = runs cc 0 number_limit in
    let qs = runs dd 0 number_limit in
    let (same, rest) = ranges_part rs qs s t
    (sym (append_assoc (joined range_text rs) (bracket_close ∷ []) s) ∙ tail-eq_of_cons-eq e ∙ append_assoc (joined range_text qs) (bracket_close ∷ []) t) in
    (class_of_ranges cc dd h k same, rest)

-- ---- lines

-- A list of such classes.
abbrev pub AllSayable : List Class → Type 0
AllSayable ccs = (i : ℕ) → i < length ccs → Sayable (get_or ccs i no_class)

-- no argument begins where the result does
no_result : (cc : Class) (n : ℕ) (s x : List ℕ) → result_text n ++ s ≡ class_text cc ++ x → ⊥
unfolding result_text class_text
no_result cc n s x e = let b : dash ≡ bracket_open = head-eq_of_cons-eq e in omega arith

-- an argument, a space, the other arguments
arguments_more : (cc : Class) (ccs : List Class) (s : List ℕ) → arguments_text (cc ∷ ccs) ++ s ≡ class_text cc ++ space ∷ (arguments_text ccs ++ s)
unfolding arguments_text joined
arguments_more cc ccs s =
    append_assoc (class_text cc ++ (space ∷ [])) (arguments_text ccs) s ∙ append_assoc (class_text cc) (space ∷ []) (arguments_text ccs ++ s)

-- the arguments of a line can be read off
arguments_part : (n m : ℕ) (s t : List ℕ) (ccs dds : List Class) → AllSayable ccs → AllSayable dds
    → arguments_text ccs ++ (result_text n ++ s) ≡ arguments_text dds ++ (result_text m ++ t) → (ccs ≡ dds) × (result_text n ++ s ≡ result_text m ++ t)
unfolding arguments_text joined
arguments_part n m s t [] [] h k e = (refl, e)
arguments_part n m s t [] (d ∷ dds) h k e = let x = result_text m ++ t in absurd (no_result d n s (space ∷ (arguments_text dds ++ x)) (e ∙ arguments_more d dds x))
arguments_part n m s t (c ∷ ccs) [] h k e = let x = result_text n ++ s in absurd (no_result c m t (space ∷ (arguments_text ccs ++ x)) (sym e ∙ arguments_more c ccs x))
arguments_part n m s t (c ∷ ccs) (d ∷ dds) h k e =
    let x = result_text n ++ s in
    let y = result_text m ++ t in
    let (first, rest) = class_part c d (space ∷ (arguments_text ccs ++ x)) (space ∷ (arguments_text dds ++ y)) (h 0 (omega arith)) (k 0 (omega arith))
    (sym (arguments_more c ccs x) ∙ e ∙ arguments_more d dds y) in
    let (others, after) = arguments_part n m s t ccs dds (λ i l. h (suc i) (omega arith)) (λ i l. k (suc i) (omega arith)) (tail-eq_of_cons-eq rest) in
    (λ i. first i ∷ others i, after)

-- a line can be read off if its result is known
pub line_part : (l k : Line) (s t : List ℕ) → l.result ≡ k.result → AllSayable l.arguments → AllSayable k.arguments → line_text l ++ s ≡ line_text k ++ t → (l ≡ k) × (s ≡ t)
unfolding line_text
line_part l k s t r a b e =
    let (arguments, rest) = arguments_part l.result k.result s t l.arguments k.arguments a b
    (sym (append_assoc (arguments_text l.arguments) (result_text l.result) s) ∙ e ∙ append_assoc (arguments_text k.arguments) (result_text k.result) t) in
    (λ i. record { arguments = arguments i; result = r i }, append_cancel_left (result_text k.result) s t (rw r at rest))

-- a line is not empty
pub line_some : (l : Line) (s : List ℕ) → [] ≡ line_text l ++ s → ⊥
unfolding line_text result_text
line_some l s e =
    omega (arith, ap length e, length-append (line_text l) s, length-append (arguments_text l.arguments) (result_text l.result))
