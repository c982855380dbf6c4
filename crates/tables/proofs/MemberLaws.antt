-- A class that gets one member more.
use Prim.Native.Nat.{ℕ, ◌+◌, ◌*◌, ◌/◌, ◌%◌, ◌^◌, ◌≤◌, ◌<◌}
use mathlib.Core.Bool.{false, true, ◌&&◌, ◌||◌, or-false, and-false}
use mathlib.Core.List.{List}
use mathlib.Core.Logic.{by_cases}
use mathlib.Core.Path.{◌≡◌, refl, sym, ◌∙◌, ap}
use native.Mathlib.Decide.{dec_lt, ℕ_discrete}
use native.Mathlib.Omega.{arith}
use lib.Bits.{bit_or}
use lib.Dec.{leb, ltb, eqb}
use lib.ListN.{length, get_or, set, length-set}
use lib.Seq.{get_or-set_same, get_or-set_other}
use borrow.Author.Tests.{le-leb, lt-leb, lt-ltb, le-ltb, eq-eqb, ne_eqb}
use Rattle.charset.proofs.BitLaws.{bit_or_lem}
use Rattle.charset.specs.Set.{characters, bit, word_bits, set_words}
use Rattle.charset.proofs.BitsLaws.{one_bit}
use Rattle.tables.specs.Layout.{slots, slot_at, class_bits, class_bit, table_words, takes_char, takes_production}
use Rattle.tables.specs.Put.{MemberAdded}

-- ---- characters and productions

pub char_bit : (t : List ℕ) (s c : ℕ) → takes_char t s c ≡ class_bit t s c
unfolding takes_char class_bit
char_bit t s c = refl

pub production_bit : (t : List ℕ) (s q : ℕ) → takes_production t s q ≡ class_bit t s (characters + q)
unfolding takes_production class_bit
production_bit t s q =
    let word : slot_at s + set_words + q / word_bits ≡ slot_at s + (characters + q) / word_bits = omega arith in
    let place : q % word_bits ≡ (characters + q) % word_bits = omega arith in
    rw (word, place) refl

-- ---- one bit more

pub word_place : (s x : ℕ) → s ≤ slots → x < class_bits → slot_at s + x / word_bits < table_words
unfolding slot_at
word_place s x l h = omega arith

-- the words of two slots are apart
same_word : (s q x y : ℕ) → x < class_bits → y < class_bits → slot_at q + y / word_bits ≡ slot_at s + x / word_bits → (q ≡ s) × (y / word_bits ≡ x / word_bits)
unfolding slot_at
same_word s q x y l h e = omega arith

-- of a word's bits the one at b
only_bit : (b k : ℕ) → (leb b k && ltb k (b + 1)) ≡ eqb k b
only_bit b k =
    elim (ℕ_discrete k b) [
      | yes e ↦ rw (le-leb b k (omega arith), lt-ltb k (b + 1) (omega arith), eq-eqb k b e) refl
      | no n ↦ by_cases (dec_lt k b)
          (λ l. rw (lt-leb b k l, ne_eqb k b n) refl)
          (λ m. rw (le-ltb k (b + 1) (omega arith), and-false (leb b k), ne_eqb k b n) refl)
    ]

module _ (t : List ℕ) (s x at : ℕ) (long : length t ≡ table_words) (ls : s ≤ slots) (lx : x < class_bits) (place : at ≡ slot_at s + x / word_bits) where
  abbrev word : ℕ
  word = bit_or (get_or t at 0) (1 * 2 ^ (x % word_bits) % 2 ^ word_bits)

  abbrev after : List ℕ
  after = set t at word

  bit_here : (k : ℕ) → bit (get_or after at 0) k ≡ (bit (get_or t at 0) k || eqb k (x % word_bits))
  bit_here k =
      let in_tables = word_place s x ls lx in
      ap (λ (v : ℕ). bit v k) (get_or-set_same t at word 0 (omega arith))
      ∙ bit_or_lem (get_or t at 0) (1 * 2 ^ (x % word_bits) % 2 ^ word_bits) k
      ∙ rw (one_bit true (x % word_bits) k (omega arith), only_bit (x % word_bits) k) refl

  -- the same word: its bits are those before, and x's
  here : (q y : ℕ) → y < class_bits → slot_at q + y / word_bits ≡ at → class_bit after q y ≡ (class_bit t q y || (eqb q s && eqb y x))
  unfolding class_bit
  here q y ly e =
      let (slot, same) = same_word s q x y lx ly (e ∙ place) in
      let bits : eqb (y % word_bits) (x % word_bits) ≡ eqb y x = elim (ℕ_discrete y x) [
        | yes is ↦ (eq-eqb (y % word_bits) (x % word_bits) (omega arith) ∙ sym (eq-eqb y x is))
        | no not ↦ (ne_eqb (y % word_bits) (x % word_bits) (λ h. not (omega arith)) ∙ sym (ne_eqb y x not))
      ] in
      rw (e, bit_here (y % word_bits), bits, eq-eqb q s slot) refl

  there : (q y : ℕ) → y < class_bits → (slot_at q + y / word_bits ≡ at → ⊥) → class_bit after q y ≡ (class_bit t q y || (eqb q s && eqb y x))
  unfolding class_bit
  there q y ly other =
      let w = slot_at q + y / word_bits in
      let not_it : (eqb q s && eqb y x) ≡ false = elim (ℕ_discrete q s) [
        | yes is ↦ elim (ℕ_discrete y x) [
          | yes same ↦ absurd (other (ap (λ (n : ℕ). slot_at n + y / word_bits) is ∙ ap (λ (n : ℕ). slot_at s + n / word_bits) same ∙ sym place))
          | no not ↦ rw (ne_eqb y x not) (and-false (eqb q s))
        ]
        | no not ↦ rw (ne_eqb q s not) refl
      ] in
      rw (get_or-set_other t at w word 0 other, not_it) (sym (or-false (bit (get_or t w 0) (y % word_bits))))

  pub member_added : MemberAdded s x t after
  member_added =
      record {
        long = length-set t at word;
        members = λ q y lq ly. elim (ℕ_discrete (slot_at q + y / word_bits) at) [ yes e ↦ here q y ly e | no e ↦ there q y ly e ];
      }
