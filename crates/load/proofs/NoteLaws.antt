-- What is written behind one byte more keeps the tables at what was read.
use Prim.Native.Nat.{ℕ, ◌+◌, ◌-◌, ◌/◌, ◌%◌, ◌≤◌, ◌<◌}
use mathlib.Core.Bool.{Bool, false, true, ◌&&◌, ◌||◌, or-false, or_assoc, and-false}
use mathlib.Core.List.{List, [], ◌∷◌, ◌++◌}
use mathlib.Core.Logic.{◌⊎◌, inl, inr, ⊎_elim, by_cases}
use mathlib.Core.Path.{◌≡◌, refl, sym, ◌∙◌, subst}
use native.Mathlib.Decide.{dec_lt}
use native.Mathlib.Omega.{arith}
use lib.Dec.{leb, ltb}
use lib.ListN.{get_or}
use borrow.Author.Tests.{lt-ltb, le-ltb, lt-leb, le-leb, leb-true, ltb-true, eq-eqb, ne_eqb}
use Rattle.ccg.proofs.TablesLaws.{table_of_character, table_between, table_of_production}
use Rattle.ccg.specs.Ccg.{Class, no_class}
use Rattle.ccg.specs.Tables.{table_class}
use Rattle.ccg.specs.Text.{number_limit}
use Rattle.charset.proofs.BitLaws.{bit_zero}
use Rattle.charset.specs.Runs.{Range, covered}
use Rattle.charset.specs.Set.{characters, in_range, word_bits}
use Rattle.common.proofs.BelowLaws.{between_in, between_ends}
use Rattle.common.proofs.BoolLaws.{and_both, and_first_true, and_second_true, or_cases, or_first, or_second, same_test}
use Rattle.form.specs.Read.{Room}
use Rattle.form.specs.declared.Spot.{Spot}
use Rattle.form.specs.declared.Spot.TheVariants.{Number, Ending}
use Rattle.layout.specs.Limits.{production_limit, argument_limit}
use Rattle.load.specs.Held.{number_bit, BitsAdded, Notable, Has}
use Rattle.tables.proofs.MemberLaws.{char_bit, production_bit}
use Rattle.tables.specs.Layout.{slots, slot_at, class_bits, class_bit}
use Rattle.theory.specs.Tree.{production_number}

-- ---- numbers and bits

number_low : (n : ℕ) → n < characters → number_bit n ≡ n
unfolding number_bit
number_low n l = rw (lt-ltb n characters l) refl

number_high : (n : ℕ) → characters ≤ n → number_bit n ≡ n - (production_number 0 - characters)
unfolding number_bit
number_high n l = rw (le-ltb n characters l) refl

pub number_below : (n : ℕ) → n < number_limit → number_bit n < class_bits
number_below n h = by_cases (dec_lt n characters) (λ l. omega (arith, number_low n l)) (λ m. omega (arith, number_high n (omega arith)))

-- a number that a class can have: a character, or at least that of the first production
is_number : ℕ → Bool
is_number n = ltb n characters || leb (production_number 0) n

-- what a slot has, bit by bit
table_bit : (t : List ℕ) (s n : ℕ) → n < number_limit → table_class t s n ≡ (is_number n && class_bit t s (number_bit n))
unfolding is_number
table_bit t s n h =
    by_cases (dec_lt n characters)
    (λ l. rw (table_of_character t s n l, char_bit t s n, number_low n l, lt-ltb n characters l) refl)
    (λ m. by_cases (dec_lt n (production_number 0))
    (λ l. rw (table_between t s n (omega arith) l, le-ltb n characters (omega arith), lt-leb (production_number 0) n l) refl)
    (λ o. let e : characters + (n - production_number 0) ≡ n - (production_number 0 - characters) = omega arith in
    rw (table_of_production t s n (omega arith) h, production_bit t s (n - production_number 0), e, number_high n (omega arith), le-ltb n characters (omega arith), le-leb (production_number 0) n (omega arith)) refl))

-- tables of zeros have nothing
pub table_zero : (t : List ℕ) (s : ℕ) → ((k : ℕ) → get_or t k 0 ≡ 0) → Has t s no_class
unfolding class_bit
table_zero t s zeros n h = table_bit t s n h ∙ rw (zeros (slot_at s + number_bit n / word_bits), bit_zero (number_bit n % word_bits)) (and-false (is_number n))

-- ---- a range that is added

-- numbers and their bits: characters, and productions
low_bit : (n : ℕ) → n < characters → (n < characters) × (number_bit n ≡ n)
low_bit n l = (l, number_low n l)

high_bit : (n : ℕ) → production_number 0 ≤ n → (production_number 0 ≤ n) × (number_bit n ≡ n - (production_number 0 - characters))
high_bit n l = (l, number_high n (omega arith))

abbrev Placed : ℕ → Type 0
Placed n = ((n < characters) × (number_bit n ≡ n)) ⊎ ((production_number 0 ≤ n) × (number_bit n ≡ n - (production_number 0 - characters)))

placed : (n : ℕ) → is_number n ≡ true → Placed n
unfolding is_number
placed n e =
    ⊎_elim (λ a. inl (low_bit n (ltb-true n characters a))) (λ a. inr (high_bit n (leb-true (production_number 0) n a))) (or_cases (ltb n characters) (leb (production_number 0) n) e)

placed_number : (n : ℕ) → Placed n → is_number n ≡ true
unfolding is_number
placed_number n p =
    ⊎_elim (λ a. or_first (ltb n characters) (leb (production_number 0) n) (lt-ltb n characters a.0)) (λ a. or_second (ltb n characters) (leb (production_number 0) n) (le-leb (production_number 0) n a.0)) p

-- A range of one kind.
pub record OneSort (l h : ℕ) : Type 0 where
  pub rises : l ≤ h
  pub kind : (h < characters) ⊎ (production_number 0 ≤ l)

ends_placed : (l h : ℕ) → OneSort l h → ((h < characters) × (number_bit l ≡ l) × (number_bit h ≡ h))
    ⊎ ((production_number 0 ≤ l) × (number_bit l ≡ l - (production_number 0 - characters)) × (number_bit h ≡ h - (production_number 0 - characters)))
ends_placed l h k =
    let rises = k.rises in
    ⊎_elim
    (λ a. inl (a, number_low l (omega arith), number_low h a))
    (λ a. inr (a, number_high l (omega arith), number_high h (omega arith)))
    k.kind

abbrev bits_have : ℕ → ℕ → ℕ → Bool
bits_have l h n = is_number n && (leb (number_bit l) (number_bit n) && ltb (number_bit n) (number_bit h + 1))

bits_range : (l h n : ℕ) → OneSort l h → bits_have l h n ≡ true → in_range l h n ≡ true
unfolding in_range
bits_range l h n k e =
    let rest = leb (number_bit l) (number_bit n) && ltb (number_bit n) (number_bit h + 1) in
    let both = and_second_true (is_number n) rest e in
    let above = leb-true (number_bit l) (number_bit n) (and_first_true (leb (number_bit l) (number_bit n)) (ltb (number_bit n) (number_bit h + 1)) both) in
    let below = ltb-true (number_bit n) (number_bit h + 1) (and_second_true (leb (number_bit l) (number_bit n)) (ltb (number_bit n) (number_bit h + 1)) both) in
    let (low, high) : (l ≤ n) × (n ≤ h) = ⊎_elim
    (λ p. ⊎_elim (λ q. omega (arith, p, q)) (λ q. omega (arith, p, q, k.rises)) (ends_placed l h k))
    (λ p. ⊎_elim (λ q. omega (arith, p, q, k.rises)) (λ q. omega (arith, p, q)) (ends_placed l h k))
    (placed n (and_first_true (is_number n) rest e)) in
    between_in l h n low high

range_bits : (l h n : ℕ) → OneSort l h → in_range l h n ≡ true → bits_have l h n ≡ true
unfolding in_range
range_bits l h n k e =
    let (low, high) = between_ends l h n e in
    let where_n : Placed n = ⊎_elim (λ a. inl (low_bit n (omega arith))) (λ a. inr (high_bit n (omega arith))) k.kind in
    let (above, below) : (number_bit l ≤ number_bit n) × (number_bit n < number_bit h + 1) = ⊎_elim
    (λ p. ⊎_elim (λ q. omega (arith, p, q)) (λ q. omega (arith, p, q)) (ends_placed l h k))
    (λ p. ⊎_elim (λ q. omega (arith, p, q)) (λ q. omega (arith, p, q)) (ends_placed l h k))
    where_n in
    and_both (is_number n) (leb (number_bit l) (number_bit n) && ltb (number_bit n) (number_bit h + 1)) (placed_number n where_n)
    (and_both (leb (number_bit l) (number_bit n)) (ltb (number_bit n) (number_bit h + 1)) (le-leb (number_bit l) (number_bit n) above) (lt-ltb (number_bit n) (number_bit h + 1) below))

-- a class that gets a range more
covered_more : (rs : List Range) (x : Range) (n : ℕ) → covered (rs ++ (x ∷ [])) n ≡ (covered rs n || in_range x.low x.high n)
unfolding covered
covered_more [] x n = or-false (in_range x.low x.high n)
covered_more (r ∷ rs) x n = rw (covered_more rs x n) (sym (or_assoc (in_range r.low r.high n) (covered rs n) (in_range x.low x.high n)))

and_or : (a b c : Bool) → (a && (b || c)) ≡ ((a && b) || (a && c))
and_or false b c = refl
and_or true b c = refl

module _ (s : ℕ) (x : Range) (t₀ t : List ℕ) (kind : OneSort x.low x.high) (added : BitsAdded s (number_bit x.low) (number_bit x.high + 1) t₀ t) where
  -- at the slot itself
  pub has_range : s ≤ slots → (rs : List Range) → Has t₀ s (covered rs) → Has t s (covered (rs ++ (x ∷ [])))
  has_range ls rs has n h =
      let y = number_bit n in
      let new = leb (number_bit x.low) y && ltb y (number_bit x.high + 1) in
      let here : class_bit t s y ≡ (class_bit t₀ s y || new) = added.members s y ls (number_below n h) ∙ rw (eq-eqb s s refl) refl in
      let old : (is_number n && class_bit t₀ s y) ≡ covered rs n = sym (table_bit t₀ s n h) ∙ has n h in
      let more : (is_number n && new) ≡ in_range x.low x.high n =
      same_test (bits_have x.low x.high n) (in_range x.low x.high n) (bits_range x.low x.high n kind) (range_bits x.low x.high n kind) in
      table_bit t s n h ∙ rw (here, and_or (is_number n) (class_bit t₀ s y) new, old, more) (sym (covered_more rs x n))

  -- at any other
  pub has_other : (q : ℕ) (cc : Class) → q ≤ slots → (q ≡ s → ⊥) → Has t₀ q cc → Has t q cc
  has_other q cc lq other has n h =
      table_bit t q n h
      ∙ rw (added.members q (number_bit n) lq (number_below n h), ne_eqb q s other, or-false (class_bit t₀ q (number_bit n))) (sym (table_bit t₀ q n h) ∙ has n h)

pub notable_number : (r a : ℕ) (s : Spot) (dashed : Bool) (low v : ℕ) → Notable r a s → s ≡ Number dashed low v → Room r a × (v < number_limit) × (dashed ≡ true → 1 ≤ low)
unfolding Notable
notable_number r a s dashed low v h e = subst (Notable r a) e h

pub notable_ending : (r a : ℕ) (s : Spot) (k : ℕ) → Notable r a s → s ≡ Ending k → (r < production_limit) × (a ≤ argument_limit)
unfolding Notable
notable_ending r a s k h e = subst (Notable r a) e h
