-- Written regions: one grows by one place a turn; the places outside; a region at the front.
use Prim.Native.Nat.{ℕ, ◌+◌, ◌-◌, ◌<◌}
use mathlib.Core.Path.{◌≡◌, refl, ◌∙◌, subst}
use mathlib.Core.List.{List}
use mathlib.Core.Logic.{by_cases}
use native.Mathlib.Omega.{arith}
use native.Mathlib.Decide.{ℕ_discrete, dec_lt}
use native.Mathlib.Nat.{zero-add}
use lib.ListN.{length, get_or, set, length-set}
use lib.Seq.{get_or-set_same, get_or-set_other}
use Rattle.common.specs.Region.{Region}

module _ {A : Type 0} (P : ℕ → A → Type 0) (d : A) (base : ℕ) (l₀ : List A) where
  pub region_none : Region P d base 0 l₀ l₀
  region_none = record { long = refl; inside = λ k l. absurd (omega arith); below = λ k l. refl; above = λ k l. refl }

  pub region_more : (n : ℕ) (l : List A) (v : A) → base + n < length l₀ → Region P d base n l₀ l → P n v → Region P d base (n + 1) l₀ (set l (base + n) v)
  region_more n l v h r p =
      record {
        long = length-set l (base + n) v ∙ r.long;
        inside = λ k m. elim (ℕ_discrete k n) [
          | yes e ↦ rw (e, get_or-set_same l (base + n) v d (omega (arith, r.long))) p
          | no e ↦ rw (get_or-set_other l (base + n) (base + k) v d (λ q. e (omega arith))) (r.inside k (omega arith))
        ];
        below = λ k m. get_or-set_other l (base + n) k v d (λ q. omega arith) ∙ r.below k m;
        above = λ k m. get_or-set_other l (base + n) k v d (λ q. omega arith) ∙ r.above k (omega arith);
      }

-- places outside a region are as they were
pub region_others : (P : ℕ → ℕ → Type 0) (base n : ℕ) (l₀ l : List ℕ) → Region P 0 base n l₀ l → (k : ℕ) → ((i : ℕ) → i < n → k ≡ base + i → ⊥) → get_or l k 0 ≡ get_or l₀ k 0
region_others P base n l₀ l r k apart =
    by_cases (dec_lt k base)
    (λ h. r.below k h)
    (λ h. by_cases (dec_lt k (base + n))
    (λ o. absurd (apart (k - base) (omega arith) (omega arith)))
    (λ o. r.above k (omega arith)))

-- a region at the front: what is in it, and one place more
pub front_inside : (P : ℕ → ℕ → Type 0) (n : ℕ) (l₀ l : List ℕ) → Region P 0 0 n l₀ l → (k : ℕ) → k < n → P k (get_or l k 0)
front_inside P n l₀ l r k h = subst (λ (x : ℕ). P k (get_or l x 0)) (zero-add k) (r.inside k h)

pub front_more : (P : ℕ → ℕ → Type 0) (n : ℕ) (l₀ l : List ℕ) (v : ℕ) → n < length l₀ → Region P 0 0 n l₀ l → P n v → Region P 0 0 (n + 1) l₀ (set l n v)
front_more P n l₀ l v h r p = subst (λ (x : ℕ). Region P 0 0 (n + 1) l₀ (set l x v)) (zero-add n) (region_more P 0 0 l₀ n l v (omega arith) r p)
