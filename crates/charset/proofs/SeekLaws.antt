-- A search for the next number at which a set is as wanted, one number a turn.
use Prim.Native.Nat.{ℕ, ◌+◌, max, ◌≤◌, ◌<◌}
use mathlib.Core.Path.{◌≡◌, subst}
use mathlib.Core.Bool.{Bool, not}
use mathlib.Core.Logic.{by_cases}
use native.Mathlib.Omega.{arith}
use native.Mathlib.Decide.{dec_lt}
use Rattle.charset.specs.Sought.{Sought}

-- None of the numbers from `from` to `at` is as wanted.
pub record Passed (limit : ℕ) (f : ℕ → Bool) (wanted : Bool) (from at : ℕ) : Type 0 where
  pub after : from ≤ at
  pub within : at ≤ max from limit
  pub passed : (k : ℕ) → from ≤ k → k < at → f k ≡ not wanted

module _ (limit : ℕ) (f : ℕ → Bool) (wanted : Bool) (from : ℕ) where
  pub seek_more : (at : ℕ) → at < limit → f at ≡ not wanted → Passed limit f wanted from at → Passed limit f wanted from (at + 1)
  seek_more at l e p =
      record {
        after = omega (arith, p.after);
        within = omega (arith, p.after);
        passed = λ k m h. by_cases (dec_lt k at) (λ b. p.passed k m b) (λ n. let q : at ≡ k = omega arith in subst (λ (j : ℕ). f j ≡ not wanted) q e);
      }

  pub seek_found : (at : ℕ) → f at ≡ wanted → Passed limit f wanted from at → Sought limit f wanted from at
  seek_found at e p = record { after = p.after; within = p.within; passed = p.passed; found = λ h. e }
