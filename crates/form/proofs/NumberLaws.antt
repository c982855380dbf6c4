-- Which numbers may come next, and which numerals begin so.
use Prim.Native.Nat.{ℕ, ◌+◌, ◌*◌, ◌/◌, max, ◌≤◌, ◌<◌}
use mathlib.Core.Bool.{Bool, true, ◌&&◌, ◌||◌, false, true≢false}
use mathlib.Core.Logic.{◌⊎◌, inl, inr, ⊎_elim, by_cases}
use mathlib.Core.Path.{◌≡◌, refl, sym, ◌∙◌}
use native.Mathlib.Decide.{dec_lt}
use native.Mathlib.Omega.{arith}
use lib.Dec.{leb, eqb}
use borrow.Author.Tests.{leb-true, eqb-true, le-leb, lt-ltb, le-ltb, eq-eqb}
use Rattle.ccg.specs.Text.{number_limit}
use Rattle.common.proofs.BoolLaws.{and_both, and_first_true, and_second_true, or_cases, or_first, or_second}
use Rattle.common.proofs.BelowLaws.{between_in, between_ends}
use Rattle.common.specs.Below.{between}
use Rattle.form.specs.Step.{last_character, last_number, last_from, allowed, meets, begins, begun}
use Rattle.theory.specs.Tree.{production_number}

pub not_zero : (v : ℕ) → eqb v 0 ≡ false → 0 < v
not_zero v e = by_cases (dec_lt 0 v) (λ l. l) (λ m. absurd (true≢false (sym (eq-eqb v 0 (omega arith)) ∙ e)))

-- ---- the end of a kind

pub last_low : (low : ℕ) → low < production_number 0 → last_from low ≡ last_character
unfolding last_from
last_low low l = rw (lt-ltb low (production_number 0) l) refl

pub last_high : (low : ℕ) → production_number 0 ≤ low → last_from low ≡ last_number
unfolding last_from
last_high low l = rw (le-ltb low (production_number 0) l) refl

-- it is below the limit
pub last_below : (low : ℕ) → last_from low < number_limit
last_below low = by_cases (dec_lt low (production_number 0)) (λ l. omega (arith, last_low low l)) (λ m. omega (arith, last_high low (omega arith)))

-- a number of the kind has the same end, and so have the numbers that may follow it
pub last_same : (low n : ℕ) → low ≤ n → n ≤ last_from low → last_from n ≡ last_from low
last_same low n a b =
    by_cases (dec_lt low (production_number 0))
    (λ l. let e = last_low low l in last_low n (omega arith) ∙ sym e)
    (λ m. last_high n (omega arith) ∙ sym (last_high low (omega arith)))

pub last_next : (n k : ℕ) → k ≤ 2 → n ≤ last_from n → last_from (n + k) ≡ last_from n
last_next n k few a =
    by_cases (dec_lt n (production_number 0))
    (λ l. let e = last_low n l in last_low (n + k) (omega arith) ∙ sym e)
    (λ m. last_high (n + k) (omega arith) ∙ sym (last_high n (omega arith)))

-- ---- numbers that may come next

-- of the kind of `low`, or, where nothing came before, the number of a line
pub allowed_cases : (low n : ℕ) → allowed low n ≡ true → ((low ≤ n) × (n ≤ last_from low)) ⊎ ((low ≡ 0) × (production_number 0 ≤ n) × (n ≤ last_number))
unfolding allowed
allowed_cases low n e =
    let kind = between low (last_from low) n in
    let other = between (production_number 0) last_number n in
    ⊎_elim
    (λ a. inl (between_ends low (last_from low) n a))
    (λ a. let (above, below) = between_ends (production_number 0) last_number n (and_second_true (eqb low 0) other a) in
    inr (eqb-true low 0 (and_first_true (eqb low 0) other a), above, below))
    (or_cases kind (eqb low 0 && other) e)

pub allowed_kind : (low n : ℕ) → low ≤ n → n ≤ last_from low → allowed low n ≡ true
unfolding allowed
allowed_kind low n a b = or_first (between low (last_from low) n) (eqb low 0 && between (production_number 0) last_number n) (between_in low (last_from low) n a b)

pub allowed_line : (low n : ℕ) → low ≡ 0 → production_number 0 ≤ n → n ≤ last_number → allowed low n ≡ true
unfolding allowed
allowed_line low n e a b =
    let other = between (production_number 0) last_number n in
    or_second (between low (last_from low) n) (eqb low 0 && other) (and_both (eqb low 0) other (eq-eqb low 0 e) (between_in (production_number 0) last_number n a b))

-- such a number is at least `low`, below the limit, and within its own kind
pub allowed_above : (low n : ℕ) → allowed low n ≡ true → low ≤ n
allowed_above low n e = ⊎_elim (λ a. a.0) (λ a. omega (arith, a.0)) (allowed_cases low n e)

pub allowed_own : (low n : ℕ) → allowed low n ≡ true → n ≤ last_from n
allowed_own low n e =
    ⊎_elim
    (λ a. omega (arith, last_same low n a.0 a.1))
    (λ a. omega (arith, last_high n a.1))
    (allowed_cases low n e)

-- where something came before, it has the same end
pub allowed_same : (low n : ℕ) → 0 < low → allowed low n ≡ true → (n ≤ last_from low) × (last_from n ≡ last_from low)
allowed_same low n some e =
    ⊎_elim
    (λ a. (a.1, last_same low n a.0 a.1))
    (λ a. absurd (omega (arith, a.0)))
    (allowed_cases low n e)

-- ---- numerals that begin so

-- The digits of v begin the numeral of n: it is v, or v isn't 0 and n has one digit or two digits more.
pub data Begins (v n : ℕ) : Type 0 where
  whole : n ≡ v → Begins v n
  with_digit : 0 < v → n / 10 ≡ v → Begins v n
  with_two : 0 < v → n / 100 ≡ v → Begins v n

meets_both : (low high a b : ℕ) → meets low high a b ≡ true → (a ≤ high) × (low ≤ b)
unfolding meets
meets_both low high a b e = (leb-true a high (and_first_true (leb a high) (leb low b) e), leb-true low b (and_second_true (leb a high) (leb low b) e))

meets_true : (low high a b : ℕ) → a ≤ high → low ≤ b → meets low high a b ≡ true
unfolding meets
meets_true low high a b l h = and_both (leb a high) (leb low b) (le-leb a high l) (le-leb low b h)

module _ (low high v : ℕ) where
  abbrev Some : Type 0
  Some = (n : ℕ) × (low ≤ n) × (n ≤ high) × Begins v n

  longer : Bool
  longer = meets low high (v * 10) (v * 10 + 9) || meets low high (v * 100) (v * 100 + 99)

  longer_some : low ≤ high → 0 < v → longer ≡ true → Some
  unfolding longer
  longer_some l some e =
      ⊎_elim
      (λ a. let m = meets_both low high (v * 10) (v * 10 + 9) a in (max low (v * 10), omega arith, omega arith, with_digit some (omega arith)))
      (λ a. let m = meets_both low high (v * 100) (v * 100 + 99) a in (max low (v * 100), omega arith, omega arith, with_two some (omega arith)))
      (or_cases (meets low high (v * 10) (v * 10 + 9)) (meets low high (v * 100) (v * 100 + 99)) e)

  begins_some : begins low high v ≡ true → Some
  unfolding begins longer
  begins_some e =
      let this = meets low high v v in
      let l = leb-true low high (and_first_true (leb low high) (this || (leb 1 v && longer)) e) in
      ⊎_elim
      (λ a. let m = meets_both low high v v a in (v, m.1, m.0, whole refl))
      (λ a. longer_some l (leb-true 1 v (and_first_true (leb 1 v) longer a)) (and_second_true (leb 1 v) longer a))
      (or_cases this (leb 1 v && longer) (and_second_true (leb low high) (this || (leb 1 v && longer)) e))

  some_begins : (n : ℕ) → low ≤ n → n ≤ high → Begins v n → begins low high v ≡ true
  unfolding begins longer
  some_begins n a b (whole e) =
      and_both (leb low high) (meets low high v v || (leb 1 v && longer)) (le-leb low high (omega arith))
      (or_first (meets low high v v) (leb 1 v && longer) (meets_true low high v v (omega arith) (omega arith)))
  some_begins n a b (with_digit some e) =
      and_both (leb low high) (meets low high v v || (leb 1 v && longer)) (le-leb low high (omega arith))
      (or_second (meets low high v v) (leb 1 v && longer)
      (and_both (leb 1 v) longer (le-leb 1 v some)
      (or_first (meets low high (v * 10) (v * 10 + 9)) (meets low high (v * 100) (v * 100 + 99)) (meets_true low high (v * 10) (v * 10 + 9) (omega arith) (omega arith)))))
  some_begins n a b (with_two some e) =
      and_both (leb low high) (meets low high v v || (leb 1 v && longer)) (le-leb low high (omega arith))
      (or_second (meets low high v v) (leb 1 v && longer)
      (and_both (leb 1 v) longer (le-leb 1 v some)
      (or_second (meets low high (v * 10) (v * 10 + 9)) (meets low high (v * 100) (v * 100 + 99)) (meets_true low high (v * 100) (v * 100 + 99) (omega arith) (omega arith)))))

-- The digits begin the numeral of a number that may come next, and only then does the test hold.
pub begun_some : (low v : ℕ) → begun low v ≡ true → (n : ℕ) × (allowed low n ≡ true) × Begins v n
unfolding begun
begun_some low v e =
    let other = begins (production_number 0) last_number v in
    ⊎_elim
    (λ a. let s = begins_some low (last_from low) v a in (s.0, allowed_kind low s.0 s.1 s.2, s.3))
    (λ a. let s = begins_some (production_number 0) last_number v (and_second_true (eqb low 0) other a) in
    (s.0, allowed_line low s.0 (eqb-true low 0 (and_first_true (eqb low 0) other a)) s.1 s.2, s.3))
    (or_cases (begins low (last_from low) v) (eqb low 0 && other) e)

pub some_begun : (low v n : ℕ) → allowed low n ≡ true → Begins v n → begun low v ≡ true
unfolding begun
some_begun low v n e h =
    let other = begins (production_number 0) last_number v in
    ⊎_elim
    (λ a. or_first (begins low (last_from low) v) (eqb low 0 && other) (some_begins low (last_from low) v n a.0 a.1 h))
    (λ a. or_second (begins low (last_from low) v) (eqb low 0 && other) (and_both (eqb low 0) other (eq-eqb low 0 a.0) (some_begins (production_number 0) last_number v n a.1 a.2 h)))
    (allowed_cases low n e)

-- a value that begins a number that may come is small
pub begun_small : (low v : ℕ) → begun low v ≡ true → v < number_limit
begun_small low v e =
    let (n, may, begins) = begun_some low v e in
    small n v begins (omega (arith, allowed_own low n may, last_below n))
  where
    small : (n v : ℕ) → Begins v n → n < number_limit → v < number_limit
    small n v (whole e) h = omega arith
    small n v (with_digit some e) h = omega arith
    small n v (with_two some e) h = omega arith

-- digits of a longer value begin with those of the shorter
begins_shorter : (v d n : ℕ) → 0 < v → d < 10 → n < number_limit → Begins (v * 10 + d) n → Begins v n
begins_shorter v d n some l h (whole e) = with_digit some (omega arith)
begins_shorter v d n some l h (with_digit _ e) = with_two some (omega arith)
begins_shorter v d n some l h (with_two _ e) = absurd (omega arith)

pub begun_shorter : (low v d : ℕ) → 0 < v → d < 10 → begun low (v * 10 + d) ≡ true → begun low v ≡ true
begun_shorter low v d some l e =
    let (n, may, begins) = begun_some low (v * 10 + d) e in
    some_begun low v n may (begins_shorter v d n some l (omega (arith, allowed_own low n may, last_below n)) begins)

-- where one begins, some number may come
pub begun_from : (low v : ℕ) → begun low v ≡ true → low ≤ last_from low
begun_from low v e =
    let (n, may, begins) = begun_some low v e in
    ⊎_elim (λ a. omega (arith, a.0, a.1)) (λ a. omega (arith, a.0, last_low low (omega (arith, a.0)))) (allowed_cases low n may)
