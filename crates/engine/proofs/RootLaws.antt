-- Laws of the productions at the root.
use Prim.Native.Nat.{ℕ, ◌+◌, ◌≤◌, ◌<◌}
use mathlib.Core.Path.{◌≡◌}
use mathlib.Core.Logic.{by_cases}
use native.Mathlib.Omega.{arith}
use native.Mathlib.Decide.{dec_lt}
use Rattle.common.proofs.BelowLaws.{sum_more, sum_one, sum_at}
use Rattle.common.specs.Below.{sum_below}

-- a sum that is not 0 goes on
pub sum_on : (f : ℕ → ℕ) (n p : ℕ) → 1 ≤ sum_below n f → sum_below p f ≡ 0 → p < n
sum_on f n p h e =
    by_cases (dec_lt p n)
    (λ l. l)
    (λ l. let (k, o, r) = sum_one f n h in absurd (omega (arith, sum_at f p k (omega arith))))

-- a sum of zeros so far
pub sum_still : (f : ℕ → ℕ) (p : ℕ) → sum_below p f ≡ 0 → f p ≡ 0 → sum_below (p + 1) f ≡ 0
sum_still f p a b = omega (arith, sum_more p f)
