-- Laws of ranges as a grammar writes them (02, [3]): either end may be the lower one.
use Prim.Native.Nat.{ℕ, min, max, ◌≤◌, ◌<◌}
use mathlib.Core.Path.{◌≡◌, refl, sym, ◌∙◌, ap₂}
use mathlib.Core.Bool.{true}
use mathlib.Core.Logic.{◌↔◌, ◌⊎◌, inl, inr, ⊎_elim, by_cases}
use native.Mathlib.Decide.{dec_lt}
use native.Mathlib.Omega.{arith}
use Rattle.charset.specs.Set.{in_range, spans}
use Rattle.common.proofs.BelowLaws.{between_in, between_ends}

module _ (low high c : ℕ) where
  -- a range has the characters from its lower end to its higher one
  spans_between : spans low high c ≡ in_range (min low high) (max low high) c
  unfolding spans
  spans_between = refl

  -- so it has a character exactly if that lies between its ends, either way round
  pub spans_exactly : (spans low high c ≡ true) ↔ (((low ≤ c) × (c ≤ high)) ⊎ ((high ≤ c) × (c ≤ low)))
  unfolding in_range
  spans_exactly = (
    (λ e. let (l, h) = between_ends (min low high) (max low high) c (sym spans_between ∙ e) in
        by_cases (dec_lt high low) (λ f. inr (omega arith, omega arith)) (λ f. inl (omega arith, omega arith))),
    (λ h. spans_between ∙ ⊎_elim (λ (l, m). between_in (min low high) (max low high) c (omega arith) (omega arith)) (λ (l, m). between_in (min low high) (max low high) c (omega arith) (omega arith)) h),
  )

  -- one whose ends are known in order is that rising one
  spans_ordered : (least most : ℕ) → min low high ≡ least → max low high ≡ most → spans low high c ≡ in_range least most c
  spans_ordered least most l m = spans_between ∙ ap₂ (λ (x y : ℕ). in_range x y c) l m

  -- a range that rises is what it always was
  pub spans_rising : low ≤ high → spans low high c ≡ in_range low high c
  spans_rising h = spans_ordered low high (omega arith) (omega arith)

  -- one that falls has the characters of the rising one
  pub spans_falling : high ≤ low → spans low high c ≡ in_range high low c
  spans_falling h = spans_ordered high low (omega arith) (omega arith)

  -- a character of a range is no larger than its ends
  pub spans_below : (m : ℕ) → low < m → high < m → spans low high c ≡ true → c < m
  unfolding in_range
  spans_below m l h e = omega (arith, (between_ends (min low high) (max low high) c (sym spans_between ∙ e)).1)

-- turned round, a range has the same characters
pub spans_turned : (low high c : ℕ) → spans low high c ≡ spans high low c
spans_turned low high c = spans_ordered low high c (min high low) (max high low) (omega arith) (omega arith) ∙ sym (spans_between high low c)
