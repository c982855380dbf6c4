-- Laws of scattered writes.
use Prim.Native.Nat.{ℕ, ◌+◌, ◌<◌}
use mathlib.Core.Path.{◌≡◌, ◌∙◌, subst⁻¹}
use mathlib.Core.List.{List}
use mathlib.Core.Logic.{by_cases}
use native.Mathlib.Omega.{arith}
use native.Mathlib.Decide.{ℕ_discrete, dec_lt}
use lib.ListN.{length, get_or, set, length-set}
use lib.Seq.{get_or-set_same, get_or-set_other}
use Rattle.column.specs.Scattered.{Scattered}

module _ (at v : ℕ → ℕ) (l₀ : List ℕ) where
  -- one place more, apart from those before it
  pub scattered_more : (n : ℕ) (l : List ℕ) → ((k : ℕ) → k < n → at k ≡ at n → ⊥) → at n < length l₀ → Scattered at v n l₀ l → Scattered at v (n + 1) l₀ (set l (at n) (v n))
  scattered_more n l apart inside s =
      record {
        long = length-set l (at n) (v n) ∙ s.long;
        here = λ k o. elim (ℕ_discrete k n) [
          | yes e ↦ subst⁻¹ (λ (x : ℕ). get_or (set l (at n) (v n)) (at x) 0 ≡ v x) e (get_or-set_same l (at n) (v n) 0 (omega (arith, s.long)))
          | no e ↦ let lt : k < n = by_cases (dec_lt k n) (λ h. h) (λ h. absurd (e (omega arith))) in
              get_or-set_other l (at n) (at k) (v n) 0 (λ q. apart k lt q) ∙ s.here k lt
        ];
        others = λ x h. get_or-set_other l (at n) x (v n) 0 (λ q. h n (omega arith) q) ∙ s.others x (λ k o. h k (omega arith));
      }
