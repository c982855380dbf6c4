-- Laws of one byte for all the argument bytes that are the same argument (02, [5]).
use Prim.Native.Nat.{ℕ, ◌+◌, ◌-◌, ◌*◌, ◌/◌, ◌%◌, ◌≤◌, ◌<◌}
use mathlib.Core.Path.{◌≡◌, refl, sym, ◌∙◌, ap, ap₂, subst}
use mathlib.Core.Bool.{false, true, or-false}
use mathlib.Core.List.{List}
use mathlib.Core.Logic.{◌⊎◌, inl, inr, by_cases}
use native.Mathlib.Omega.{arith}
use native.Mathlib.Decide.{ℕ_discrete, dec_lt}
use lib.Dec.{eqb}
use lib.ListN.{length, get_or, set, length-set, replicate, length-replicate}
use lib.Seq.{get_or-set_same, get_or-set_other}
use borrow.Author.Tests.{eqb-true, eq-eqb, ne_eqb}
use Rattle.charset.proofs.SameSetLaws.{same_set_self, same_set_sym, same_set_trans, same_set_like}
use Rattle.charset.specs.Set.{characters, word_bits, set_words, bit, has, same_set}
use Rattle.charset.specs.Sought.{Sought}
use Rattle.classes.proofs.ClassesLaws.{class_there, class_named, no_class_below, no_class_above}
use Rattle.classes.specs.Canonical.{set_has, SetsHeld, LowestSame, stands_for, Canonical}
use Rattle.classes.specs.Classes.{is_class, class_has, same_class, same_argument}
use Rattle.common.proofs.ZeroLaws.{all_zero}
use Rattle.common.proofs.BoolLaws.{same_test, not_both, or_absorbed}
use Rattle.common.specs.Bytes.{byte_values}
use Rattle.common.specs.Region.{Region}
use Rattle.layout.specs.Framed.{Framed}
use Rattle.layout.specs.Layout.{classes}
use Rattle.layout.specs.Limits.{class_limit, class_base}

-- ---- the sets

-- there is room for each class
pub class_few : (b : List ℕ) → Framed b → (k : ℕ) → k < classes b → k < class_limit
class_few b f k l = omega (arith, f.few_classes)

-- at first no class is held
pub held_none : (b : List ℕ) → SetsHeld b 0 (replicate {A = ℕ} (class_limit * set_words) 0)
held_none b = record { long = length-replicate {A = ℕ} (class_limit * set_words) 0; held = λ k c l m. absurd (omega arith) }

-- a character's word and bit are those of its set
pub held_word : (words : List ℕ) (k c : ℕ) → set_has words k c ≡ bit (get_or words (set_words * k + c / word_bits) 0) (c % word_bits)
unfolding has
held_word words k c =
    let word : (characters * k + c) / word_bits ≡ set_words * k + c / word_bits = omega arith in
    let at : (characters * k + c) % word_bits ≡ c % word_bits = omega arith in
    ap₂ (λ (n i : ℕ). bit (get_or words n 0) i) word at

-- one set more
pub held_more : (b own words₀ words : List ℕ) (k : ℕ) → length own ≡ set_words → ((c : ℕ) → c < characters → has own c ≡ class_has b k c)
    → SetsHeld b k words₀ → Region (λ (i v : ℕ). v ≡ get_or own i 0) 0 (set_words * k) (length own) words₀ words → SetsHeld b (k + 1) words
unfolding has
held_more b own words₀ words k long new before r =
    record {
      long = r.long ∙ before.long;
      held = λ j c m o. held_word words j c ∙ elim (ℕ_discrete j k) [
        | yes e ↦ rw e (ap (λ (v : ℕ). bit v (c % word_bits)) (r.inside (c / word_bits) (omega arith)) ∙ new c o)
        | no e ↦ ap (λ (v : ℕ). bit v (c % word_bits)) (r.below (set_words * j + c / word_bits) (omega arith)) ∙ sym (held_word words₀ j c) ∙ before.held j c (omega arith) o
      ];
    }

-- ---- the lowest class of a set

-- Class r is the lowest with the characters of class k: one before it, or k itself.
abbrev Lowest : List ℕ → ℕ → ℕ → Type 0
Lowest b k r = Sought k (same_class b k) true 0 r

-- the lowest set is that of the lowest class
held_lowest : (b words : List ℕ) (k r : ℕ) → SetsHeld b (k + 1) words → LowestSame words k r → Lowest b k r
unfolding same_class
held_lowest b words k r h s =
    let same : (j : ℕ) → j < k → same_class b k j ≡ same_set (set_has words k) (set_has words j) =
    λ j l. sym (same_set_like _ _ _ _ (λ c m. h.held k c (omega arith) m) (λ c m. h.held j c (omega arith) m)) in
    record {
      after = s.after;
      within = s.within;
      passed = λ j l m. same j (omega (arith, s.within)) ∙ s.passed j l m;
      found = λ l. same r l ∙ s.found l;
    }

module _ (b : List ℕ) where
  -- it has the same characters
  lowest_same : (k r : ℕ) → Lowest b k r → same_class b k r ≡ true
  unfolding same_class
  lowest_same k r s =
      by_cases (dec_lt r k)
      (λ l. s.found l)
      (λ n. let e : r ≡ k = omega (arith, s.within) in rw e (same_set_self (class_has b k)))

  -- no lower class has
  lowest_below : (k r j : ℕ) → Lowest b k r → same_class b k j ≡ true → r ≤ j
  lowest_below k r j s e = by_cases (dec_lt j r) (λ l. not_both (same_class b k j) e (s.passed j (omega arith) l)) (λ n. omega arith)

  -- so two classes are one set exactly if the lowest of each is one class
  lowest_decides : (j k r s : ℕ) → Lowest b j r → Lowest b k s → eqb r s ≡ same_class b j k
  unfolding same_class
  lowest_decides j k r s low low' =
      let f = class_has b in
      let own = lowest_same j r low in
      let other = lowest_same k s low' in
      same_test (eqb r s) (same_class b j k)
      (λ e. same_set_trans (f j) (f s) (f k) (subst (λ (n : ℕ). same_class b j n ≡ true) (eqb-true r s e) own) (same_set_sym (f k) (f s) other))
      (λ e. eq-eqb r s (omega (
        arith,
        lowest_below j r s low (same_set_trans (f j) (f k) (f s) e other),
        lowest_below k s r low' (same_set_trans (f k) (f j) (f r) (same_set_sym (f j) (f k) e) own),
      )))

-- ---- the table

-- The lowest class stands for each of the first n classes, and every other byte for itself.
pub record Filled (b : List ℕ) (n : ℕ) (table : List ℕ) : Type 0 where
  pub long : length table ≡ byte_values
  pub below : (x : ℕ) → x < class_base → get_or table x 0 ≡ 0
  pub named : (k : ℕ) → k < n → (r : ℕ) × (get_or table (class_base + k) 0 ≡ k - r) × Lowest b k r
  pub above : (x : ℕ) → class_base + n ≤ x → get_or table x 0 ≡ 0

pub filled_none : (b : List ℕ) → Filled b 0 (replicate {A = ℕ} byte_values 0)
filled_none b =
    let z = all_zero byte_values in
    record { long = z.long; below = λ x l. z.zeros x; named = λ k l. absurd (omega arith); above = λ x l. z.zeros x }

pub filled_more : (b table words : List ℕ) (k r : ℕ) → k < class_limit → SetsHeld b (k + 1) words → LowestSame words k r → Filled b k table
    → Filled b (k + 1) (set table (class_base + k) (k - r))
filled_more b table words k r there h s f =
    let at = class_base + k in
    let v = k - r in
    record {
      long = length-set table at v ∙ f.long;
      below = λ x l. get_or-set_other table at x v 0 (λ e. omega arith) ∙ f.below x l;
      named = λ j l. elim (ℕ_discrete j k) [
        | yes e ↦ rw e (r, get_or-set_same table at v 0 (omega (arith, f.long)), held_lowest b words k r h s)
        | no e ↦ let (t, g, low) = f.named j (omega arith) in (t, get_or-set_other table at (class_base + j) v 0 (λ d. e (omega arith)) ∙ g, low)
      ];
      above = λ x l. get_or-set_other table at x v 0 (λ e. omega arith) ∙ f.above x (omega arith);
    }

module _ (b table : List ℕ) (f : Filled b (classes b) table) where
  -- What stands for a class, and for any other byte.
  Says : ℕ → Type 0
  Says x = ((is_class b x ≡ true) × ((r : ℕ) × (stands_for table x ≡ class_base + r) × Lowest b (x - class_base) r)) ⊎ ((is_class b x ≡ false) × (stands_for table x ≡ x))

  says : (x : ℕ) → Says x
  unfolding Says stands_for
  says x =
      by_cases (dec_lt x class_base)
      (λ m. inr (no_class_below b x m, omega (arith, f.below x m)))
      (λ m. by_cases (dec_lt x (class_base + classes b))
      (λ n. let e : class_base + (x - class_base) ≡ x = omega arith in
      let (r, g, low) = f.named (x - class_base) (omega arith) in
      let own : get_or table x 0 ≡ x - class_base - r = subst (λ (y : ℕ). get_or table y 0 ≡ x - class_base - r) e g in
      inl (class_named b x (omega arith) n, (r, omega (arith, own, low.within), low)))
      (λ n. inr (no_class_above b x (omega arith), omega (arith, f.above x (omega arith)))))

  -- it is no higher
  no_higher : (x : ℕ) → get_or table x 0 ≤ x
  no_higher x =
      by_cases (dec_lt x class_base)
      (λ m. omega (arith, f.below x m))
      (λ m. by_cases (dec_lt x (class_base + classes b))
      (λ n. let e : class_base + (x - class_base) ≡ x = omega arith in
      let (r, g, low) = f.named (x - class_base) (omega arith) in
      omega (arith, subst (λ (y : ℕ). get_or table y 0 ≡ x - class_base - r) e g))
      (λ n. omega (arith, f.above x (omega arith))))

  -- a class, and a byte that is none
  apart : (x y r : ℕ) → is_class b x ≡ true → Lowest b (x - class_base) r → is_class b y ≡ false → (class_base + r ≡ y → ⊥) × (x ≡ y → ⊥)
  apart x y r c low n =
      let there = class_there b x c in (
        (λ e. not_both (is_class b y) (class_named b y (omega arith) (omega (arith, low.within))) n),
        (λ e. not_both (is_class b x) c (rw e n)),
      )

  -- a class of one set, and one of another
  both_classes : (x y r s : ℕ) → is_class b x ≡ true → is_class b y ≡ true → Lowest b (x - class_base) r → Lowest b (y - class_base) s → eqb (class_base + r) (class_base + s) ≡ same_argument b x y
  unfolding same_argument same_class
  both_classes x y r s c d low low' =
      let j = x - class_base in
      let k = y - class_base in
      let shift : eqb (class_base + r) (class_base + s) ≡ eqb r s =
      same_test _ _ (λ e. eq-eqb r s (omega (arith, eqb-true (class_base + r) (class_base + s) e))) (λ e. eq-eqb (class_base + r) (class_base + s) (omega (arith, eqb-true r s e))) in
      let own : eqb x y ≡ true → same_class b j k ≡ true = λ e. subst (λ (z : ℕ). same_class b j (z - class_base) ≡ true) (eqb-true x y e) (same_set_self (class_has b j)) in
      rw (c, d) (shift ∙ lowest_decides b j k r s low low' ∙ sym (or_absorbed (eqb x y) (same_class b j k) own))

  decide : (x y : ℕ) → Says x → Says y → eqb (stands_for table x) (stands_for table y) ≡ same_argument b x y
  unfolding Says same_argument
  decide x y (inl (c, (r, g, low))) (inl (d, (s, h, low'))) = rw (g, h) (both_classes x y r s c d low low')
  decide x y (inl (c, (r, g, low))) (inr (n, h)) =
      let (m, o) = apart x y r c low n in
      rw (g, h, c, n, ne_eqb (class_base + r) y m, ne_eqb x y o) refl
  decide x y (inr (n, g)) (inl (d, (s, h, low))) =
      let (m, o) = apart y x s d low n in
      rw (g, h, d, n, ne_eqb x (class_base + s) (λ e. m (sym e)), ne_eqb x y (λ e. o (sym e))) refl
  decide x y (inr (n, g)) (inr (m, h)) = rw (g, h, n) (sym (or-false (eqb x y)))

  pub filled_all : Canonical b table
  filled_all = record { long = f.long; small = no_higher; decides = λ x y l m. decide x y (says x) (says y) }
