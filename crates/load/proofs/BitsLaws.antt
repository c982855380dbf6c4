-- Bits that are added to a class one by one.
use Prim.Native.Nat.{ℕ, ◌+◌, max, ◌≤◌}
use mathlib.Core.Bool.{Bool, false, true, ◌&&◌, ◌||◌, or-false, or_assoc, and-false}
use mathlib.Core.List.{List}
use mathlib.Core.Logic.{by_cases}
use mathlib.Core.Path.{◌≡◌, refl, sym, ◌∙◌, subst}
use native.Mathlib.Decide.{dec_lt, ℕ_discrete}
use native.Mathlib.Omega.{arith}
use lib.Dec.{leb, ltb, eqb}
use borrow.Author.Tests.{le-leb, lt-leb, lt-ltb, le-ltb, eq-eqb, ne_eqb}
use Rattle.load.specs.Held.{BitsAdded}
use Rattle.tables.specs.Layout.{class_bit}
use Rattle.tables.specs.Put.{MemberAdded}

-- no bit is between first and an end that is not above it
between_none : (first end y : ℕ) → end ≤ first → (leb first y && ltb y end) ≡ false
between_none first end y h =
    by_cases (dec_lt y first)
    (λ l. rw (lt-leb first y l) refl)
    (λ m. rw (le-ltb y end (omega arith)) (and-false (leb first y)))

between_more : (first x y : ℕ) → first ≤ x → ((leb first y && ltb y x) || eqb y x) ≡ (leb first y && ltb y (x + 1))
between_more first x y h =
    elim (ℕ_discrete y x) [
      | yes e ↦ rw (le-leb first y (omega arith), le-ltb y x (omega arith), eq-eqb y x e, lt-ltb y (x + 1) (omega arith)) refl
      | no n ↦ by_cases (dec_lt y x)
          (λ l. rw (ne_eqb y x n, or-false (leb first y && ltb y x), lt-ltb y x l, lt-ltb y (x + 1) (omega arith)) refl)
          (λ m. rw (ne_eqb y x n, or-false (leb first y && ltb y x), le-ltb y x (omega arith), le-ltb y (x + 1) (omega arith)) refl)
    ]

-- none
pub bits_none : (s first end : ℕ) (t : List ℕ) → end ≤ first → BitsAdded s first end t t
bits_none s first end t h =
    record {
      long = refl;
      members = λ q y lq ly. sym (rw (between_none first end y h, and-false (eqb q s)) (or-false (class_bit t q y)));
    }

-- one more
pub bits_more : (s first x : ℕ) (t₀ t₁ t : List ℕ) → first ≤ x → BitsAdded s first x t₀ t₁ → MemberAdded s x t₁ t → BitsAdded s first (x + 1) t₀ t
bits_more s first x t₀ t₁ t h a b =
    record {
      long = b.long ∙ a.long;
      members = λ q y lq ly. b.members q y lq ly ∙ rw (a.members q y lq ly) (joined (class_bit t₀ q y) (eqb q s) (leb first y && ltb y x) (eqb y x) (leb first y && ltb y (x + 1)) (between_more first x y h));
    }
  where
    joined : (a s b c d : Bool) → (b || c) ≡ d → ((a || (s && b)) || (s && c)) ≡ (a || (s && d))
    joined a false b c d e = rw (or-false a) (or-false a)
    joined a true b c d e = rw (← e) (or_assoc a b c)

-- where the loop ends: at the end, or at once if this is not above the first
pub bits_ended : (s first end x : ℕ) (t₀ t : List ℕ) → first ≤ x → x ≤ max first end → end ≤ x → BitsAdded s first x t₀ t → BitsAdded s first end t₀ t
bits_ended s first end x t₀ t l h m a =
    by_cases (dec_lt first end)
    (λ less. let e : x ≡ end = omega arith in subst (λ (n : ℕ). BitsAdded s first n t₀ t) e a)
    (λ no_less. record {
      long = a.long;
      members = λ q y lq ly. a.members q y lq ly ∙ rw (between_none first x y (omega arith), between_none first end y (omega arith)) refl;
    })
