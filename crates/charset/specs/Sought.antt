-- What a search for the next member, or the next gap, of a set of numbers gives.
use Rattle.std.specs.Prelude.{ℕ, max, ◌≤◌, ◌<◌, ◌≡◌, Bool, not}

-- r is the first number from `from` on, below the limit, at which f is as wanted; or else it is past all of them.
pub record Sought (limit : ℕ) (f : ℕ → Bool) (wanted : Bool) (from r : ℕ) : Type 0 where
  pub after : from ≤ r
  pub within : r ≤ max from limit
  pub passed : (k : ℕ) → from ≤ k → k < r → f k ≡ not wanted
  pub found : r < limit → f r ≡ wanted

-- What a test of numbers gives, as a relation, is what f gives, from `from` to below the limit.
pub record Computed {F : Type 0} (post : F → ℕ → Bool → Type 0) (test : F) (from limit : ℕ) (f : ℕ → Bool) : Type 0 where
  pub computed : (k : ℕ) (r : Bool) → from ≤ k → k < limit → post test k r → r ≡ f k
