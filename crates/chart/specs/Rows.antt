-- Tables with an entry for each row, while they are written production by production.
use Rattle.std.specs.Prelude.{ℕ, ◌≤◌, ◌<◌, ◌≡◌, List, length, get_or}
use Rattle.tables.specs.Layout.{arity_in, row_count}
use Rattle.chart.specs.Layout.{row_limit, row_of}

-- The rows of the first n productions hold v p d, for their first d arguments and one argument more; all other entries are 0.
pub record RowsFilled (v : ℕ → ℕ → ℕ) (counts : List ℕ) (n : ℕ) (l : List ℕ) : Type 0 where
  pub long : length l ≡ row_limit
  pub here : (p d : ℕ) → p < n → d < arity_in counts p → get_or l (row_of (arity_in counts) p d) 0 ≡ v p d
  pub ends : (p : ℕ) → p < n → get_or l (row_of (arity_in counts) p (arity_in counts p)) 0 ≡ 0
  pub ahead : (k : ℕ) → row_count (arity_in counts) n ≤ k → get_or l k 0 ≡ 0
