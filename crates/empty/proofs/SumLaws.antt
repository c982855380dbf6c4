-- Sums whose summands are ordered.
use Prim.Native.Nat.{ℕ, zero, suc, ◌≤◌, ◌<◌}
use mathlib.Core.Path.{◌≡◌}
use native.Mathlib.Omega.{arith}
use native.Mathlib.Decide.{ℕ_discrete}
use Rattle.common.specs.Below.{sum_below}

-- smaller summands, a smaller sum
pub sum_less : (f g : ℕ → ℕ) (n : ℕ) → ((k : ℕ) → k < n → f k ≤ g k) → sum_below n f ≤ sum_below n g
unfolding sum_below
sum_less f g zero h = omega arith
sum_less f g (suc n) h = omega (arith, sum_less f g n (λ k l. h k (omega arith)), h n (omega arith))

-- if the sum is no smaller, no summand is
pub sum_tight : (f g : ℕ → ℕ) (n : ℕ) → ((k : ℕ) → k < n → f k ≤ g k) → sum_below n g ≤ sum_below n f → (k : ℕ) → k < n → f k ≡ g k
unfolding sum_below
sum_tight f g zero h e k l = absurd (omega arith)
sum_tight f g (suc n) h e k l =
    let less = sum_less f g n (λ i m. h i (omega arith)) in
    let here = h n (omega arith) in
    elim (ℕ_discrete k n) [
      | yes o ↦ rw o (omega arith)
      | no o ↦ sum_tight f g n (λ i m. h i (omega arith)) (omega arith) k (omega arith)
    ]
