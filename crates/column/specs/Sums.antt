-- The sums of a column: for each row and start, the splits of its spans so far. `live` has for each start the largest sum, or more.
use Rattle.std.specs.Prelude.{ℕ, ◌+◌, ◌*◌, ◌<◌, ◌≡◌, List, length, get_or}
use Rattle.chart.specs.Layout.{places, entry_at}
use Rattle.chart.specs.ByEnds.{place_at}
use Rattle.theory.specs.Steps.{cap}

-- The cells of the first rows that end at j and start before it are zeros in l; other bytes are as they were in l₀.
pub record ColumnCleared (n rows j : ℕ) (l₀ l : List ℕ) : Type 0 where
  pub long : length l ≡ length l₀
  pub zeros : (r i : ℕ) → r < rows → i < j → entry_at l (place_at n r i j) ≡ 0
  pub others : (k : ℕ) → ((r i : ℕ) → r < rows → i < j → k ≡ place_at n r i j → ⊥) → get_or l k 0 ≡ get_or l₀ k 0

-- The splits of a row at m were added to its sums, for each start before m: the cell from there to m, times what may stand behind it.
pub record RowAdded (n row m argument : ℕ) (chart sums live sums' live' : List ℕ) : Type 0 where
  pub sums_long : length sums' ≡ length sums
  pub live_long : length live' ≡ length live
  pub added : (i : ℕ) → i < m → get_or sums' (row * places + i) 0 ≡ cap (get_or sums (row * places + i) 0 + entry_at chart (place_at n row i m) * cap argument)
  pub others : (k : ℕ) → ((i : ℕ) → i < m → k ≡ row * places + i → ⊥) → get_or sums' k 0 ≡ get_or sums k 0
  -- a start at which nothing is live has no new sum
  pub kept : (i : ℕ) → get_or live' i 0 ≡ 0 → get_or live i 0 ≡ 0
  pub quiet : (i : ℕ) → i < m → get_or live' i 0 ≡ 0 → get_or sums (row * places + i) 0 ≡ 0 → get_or sums' (row * places + i) 0 ≡ 0

-- So were those of the first rows.
pub record SplitsAdded (n rows m : ℕ) (chart args sums live sums' live' : List ℕ) : Type 0 where
  pub sums_long : length sums' ≡ length sums
  pub live_long : length live' ≡ length live
  pub added : (r i : ℕ) → r < rows → i < m
      → get_or sums' (r * places + i) 0 ≡ cap (get_or sums (r * places + i) 0 + entry_at chart (place_at n r i m) * cap (get_or args r 0))
  pub others : (k : ℕ) → ((r i : ℕ) → r < rows → i < m → k ≡ r * places + i → ⊥) → get_or sums' k 0 ≡ get_or sums k 0
  pub kept : (i : ℕ) → get_or live' i 0 ≡ 0 → get_or live i 0 ≡ 0
  pub quiet : (r i : ℕ) → r < rows → i < m → get_or live' i 0 ≡ 0 → get_or sums (r * places + i) 0 ≡ 0 → get_or sums' (r * places + i) 0 ≡ 0
