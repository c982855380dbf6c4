-- Where a cell stands while the chart is filled: for each row each end j, and for it each start i, the start changing fastest.
-- So the cells of a row that end at j stand side by side.
use Rattle.std.specs.Prelude.{ℕ, ◌+◌, ◌*◌, ◌≤◌, ◌<◌, ◌≡◌, List, length, get_or}
use Rattle.chart.specs.Layout.{span_count, cell_at, entry_at}
use Rattle.common.specs.Below.{sum_below}

-- how many spans end before j: k + 1 end at k
unfoldable pub column_at : ℕ → ℕ
column_at j = sum_below j (λ k. k + 1)

-- the place of the cell of a row for the span from i to j
unfoldable pub place_at : ℕ → ℕ → ℕ → ℕ → ℕ
place_at n row i j = row * span_count n + column_at j + i

-- The cells of one row stood by ends in l₀, and stand where the chart has them in l; other rows are as they were.
pub record RowTurned (n row : ℕ) (l₀ l : List ℕ) : Type 0 where
  pub long : length l ≡ length l₀
  pub cells : (i j : ℕ) → i ≤ j → j ≤ n → entry_at l (cell_at n row i j) ≡ entry_at l₀ (place_at n row i j)
  pub below : (k : ℕ) → k < row * span_count n → get_or l k 0 ≡ get_or l₀ k 0
  pub above : (k : ℕ) → (row + 1) * span_count n ≤ k → get_or l k 0 ≡ get_or l₀ k 0

-- So do the cells of the first rows; bytes beyond them are as they were.
pub record Turned (n rows : ℕ) (l₀ l : List ℕ) : Type 0 where
  pub long : length l ≡ length l₀
  pub cells : (r i j : ℕ) → r < rows → i ≤ j → j ≤ n → entry_at l (cell_at n r i j) ≡ entry_at l₀ (place_at n r i j)
  pub beyond : (k : ℕ) → rows * span_count n ≤ k → get_or l k 0 ≡ get_or l₀ k 0
