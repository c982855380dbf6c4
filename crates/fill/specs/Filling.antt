-- A chart while it is filled: column by column, each from its end down to the start of the text.
use Rattle.std.specs.Prelude.{ℕ, ◌+◌, ◌-◌, ◌*◌, ◌≤◌, ◌<◌, ◌≡◌, cond, ◌&&◌, List, eqb, length, get_or}
use Rattle.chart.specs.Layout.{places, row_limit, row_of, chart_bytes, entry_at}
use Rattle.tables.specs.Layout.{row_count}
use Rattle.chart.specs.ByEnds.{place_at}
use Rattle.common.specs.Below.{sum_below}
use Rattle.theory.specs.Counts.{Shown}
use Rattle.theory.specs.Grammar.{Grammar, Spells}
use Rattle.theory.specs.Steps.{Chart, cap, argument_sum, split_sum}
use Rattle.theory.specs.Tree.{Forest}

-- The entries so far. Those of empty spans are known from the beginning, though they are stored last in their column.
unfoldable pub view_of : (ℕ → ℕ) → ℕ → (empty bytes : List ℕ) → Chart
view_of arity n empty bytes p d i j = cond (eqb i j) (get_or empty (row_of arity p d) 0) (entry_at bytes (place_at n (row_of arity p d) i j))

-- The same entries, but for the span from i to j, whose cells are x.
unfoldable pub over : (ℕ → ℕ) → Chart → ℕ → ℕ → List ℕ → Chart
over arity c i j x p d i' j' = cond (eqb i' i && eqb j' j) (get_or x (row_of arity p d) 0) (c p d i' j')

-- The span from i' to j' is done once the columns before j are, and column j from its end down to i.
pub record Done (n i j i' j' : ℕ) : Type 0 where
  pub rises : i' ≤ j'
  pub within : j' ≤ n
  pub column : i' < j' → j' ≤ j
  pub start : i' < j' → j' ≡ j → i ≤ i'

-- No cell of a column before j is above 2.
pub record SmallCells (n rows j : ℕ) (bytes : List ℕ) : Type 0 where
  pub small_cells : (r i' j' : ℕ) → r < rows → i' < j' → j' < j → entry_at bytes (place_at n r i' j') ≤ 2

-- No sum for a start before j is.
pub record SmallSums (rows j : ℕ) (sums : List ℕ) : Type 0 where
  pub small_sums : (r i' : ℕ) → r < rows → i' < j → get_or sums (r * places + i') 0 ≤ 2

-- The chart held `before`, and holds `bytes` now, by ends.
pub record Filling (g : Grammar) (w empty before bytes : List ℕ) (i j : ℕ) : Type 0 where
  pub long : length bytes ≡ length before
  -- bytes beyond the chart stay
  pub beyond : (k : ℕ) → chart_bytes g.arity g.count (length w) ≤ k → get_or bytes k 0 ≡ get_or before k 0
  pub shown : (p d i' j' : ℕ) → p < g.count → d ≤ g.arity p → Done (length w) i j i' j'
      → Shown (λ (f : Forest). Spells g w p f d i' j') (view_of g.arity (length w) empty bytes p d i' j')
  pub steps : (p d i' j' : ℕ) → p < g.count → d < g.arity p → Done (length w) i j i' j'
      → cap (split_sum g w (view_of g.arity (length w) empty bytes) p d i' j') ≤ view_of g.arity (length w) empty bytes p (d + 1) i' j'
  -- the empty spans of the columns before j are stored
  pub diagonal : (r j' : ℕ) → r < row_count g.arity g.count → j' < j → entry_at bytes (place_at (length w) r j' j') ≡ get_or empty r 0

-- Column j is done from its end down to start i. Before i its cells are zeros, and `sums` has for each row and start the splits at i and later;
-- `live` is 0 only where all of them are.
pub record Summing (g : Grammar) (w empty bytes sums live : List ℕ) (i j : ℕ) : Type 0 where
  pub sums_long : length sums ≡ row_limit * places
  pub live_long : length live ≡ places
  pub cleared : (r i' : ℕ) → r < row_count g.arity g.count → i' < i → entry_at bytes (place_at (length w) r i' j) ≡ 0
  pub splits : (p d i' : ℕ) → p < g.count → d < g.arity p → i' < i
      → get_or sums (row_of g.arity p d * places + i') 0
      ≡ cap (sum_below (j - i) (λ k. view_of g.arity (length w) empty bytes p d i' (i + k) * argument_sum g w (view_of g.arity (length w) empty bytes) p d (i + k) j))
  pub quiet : (r i' : ℕ) → r < row_count g.arity g.count → i' < i → get_or live i' 0 ≡ 0 → get_or sums (r * places + i') 0 ≡ 0
