-- A part of a list that was written, the rest being as it was.
use Rattle.std.specs.Prelude.{ℕ, ◌+◌, ◌≤◌, ◌<◌, ◌≡◌, List, length, get_or}

-- Of l₀ only the n places from base on were written; place base + k holds what P says of k.
pub record Region {A : Type 0} (P : ℕ → A → Type 0) (d : A) (base n : ℕ) (l₀ l : List A) : Type 0 where
  pub long : length l ≡ length l₀
  pub inside : (k : ℕ) → k < n → P k (get_or l (base + k) d)
  pub below : (k : ℕ) → k < base → get_or l k d ≡ get_or l₀ k d
  pub above : (k : ℕ) → base + n ≤ k → get_or l k d ≡ get_or l₀ k d
