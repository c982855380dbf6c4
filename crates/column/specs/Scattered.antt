-- A list in which some places were written, the rest being as it was.
use Rattle.std.specs.Prelude.{ℕ, ◌<◌, ◌≡◌, List, length, get_or}

-- Of l₀ only the places at 0, at 1, … at (n - 1) were written; they hold v 0, v 1, …
pub record Scattered (at v : ℕ → ℕ) (n : ℕ) (l₀ l : List ℕ) : Type 0 where
  pub long : length l ≡ length l₀
  pub here : (k : ℕ) → k < n → get_or l (at k) 0 ≡ v k
  pub others : (x : ℕ) → ((k : ℕ) → k < n → x ≡ at k → ⊥) → get_or l x 0 ≡ get_or l₀ x 0
