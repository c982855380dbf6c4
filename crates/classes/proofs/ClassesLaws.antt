-- Laws of the character classes of a grammar.
use Prim.Native.Nat.{ℕ, ◌+◌, ◌-◌, ◌≤◌, ◌<◌}
use mathlib.Core.Path.{◌≡◌, refl}
use mathlib.Core.Bool.{Bool, false, true, and-false}
use mathlib.Core.List.{List}
use mathlib.Core.Logic.{◌↔◌}
use native.Mathlib.Omega.{arith}
use lib.Dec.{leb, ltb}
use lib.ListN.{get_or}
use borrow.Author.Tests.{leb-true, ltb-true, lt-leb, le-leb, lt-ltb, le-ltb}
use Rattle.charset.proofs.SpansLaws.{spans_exactly, spans_below}
use Rattle.charset.specs.Set.{characters, spans}
use Rattle.classes.specs.Classes.{is_class, class_has, SomeRangeHas}
use Rattle.common.proofs.BelowLaws.{any_here, any_found}
use Rattle.common.proofs.BoolLaws.{and_first_true, and_second_true}
use Rattle.layout.specs.Layout.{classes, range_count, range_at, low, high}
use Rattle.layout.specs.Limits.{class_base}

-- which bytes are classes: those from class 0 on, up to the last
module _ (b : List ℕ) (x : ℕ) where
  pub class_named : class_base ≤ x → x < class_base + classes b → is_class b x ≡ true
  unfolding is_class
  class_named l m = rw (le-leb class_base x l, lt-ltb x (class_base + classes b) m) refl

  pub no_class_below : x < class_base → is_class b x ≡ false
  unfolding is_class
  no_class_below l = rw (lt-leb class_base x l) refl

  pub no_class_above : class_base + classes b ≤ x → is_class b x ≡ false
  unfolding is_class
  no_class_above l = rw (le-ltb x (class_base + classes b) l) (and-false (leb class_base x))

  pub class_there : is_class b x ≡ true → x - class_base < classes b
  unfolding is_class
  class_there e =
      let end = class_base + classes b in
      omega (arith, leb-true class_base x (and_first_true (leb class_base x) (ltb x end) e), ltb-true x end (and_second_true (leb class_base x) (ltb x end) e))

-- a class has a character exactly if some range of it has
pub class_passes : (b : List ℕ) (k c : ℕ) → (class_has b k c ≡ true) ↔ SomeRangeHas b k c
unfolding class_has
class_passes b k c =
    let f : ℕ → Bool = λ r. spans (low b k r) (high b k r) c in (
      (λ e. let (r, l, h) = any_found f (range_count b k) e in (r, l, (spans_exactly (low b k r) (high b k r) c).0 h)),
      (λ (r, l, h). any_here f r (range_count b k) l ((spans_exactly (low b k r) (high b k r) c).1 h)),
    )

-- the ends of a range are bytes, so the characters of a class are
pub class_character : (b : List ℕ) → ((k : ℕ) → get_or b k 0 < characters) → (k c : ℕ) → class_has b k c ≡ true → c < characters
unfolding class_has low high
class_character b bytes k c e =
    let (r, l, h) = any_found (λ r. spans (low b k r) (high b k r) c) (range_count b k) e in
    spans_below (low b k r) (high b k r) c characters (bytes (range_at b k r)) (bytes (range_at b k r + 1)) h
