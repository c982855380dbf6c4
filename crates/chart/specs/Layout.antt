-- Where a cell of the chart stands (01, "Readings, listings and the chart"): a byte for each production in order, each count d of its arguments,
-- each start i and each end j, the last changing fastest.
use Rattle.std.specs.Prelude.{ℕ, ◌+◌, ◌-◌, ◌*◌, ◌/◌, ◌≤◌, List, length, get_or}
use Rattle.common.specs.Below.{sum_below}
use Rattle.layout.specs.Limits.{production_limit, argument_limit}
use Rattle.tables.specs.Layout.{counts_of, arity_in, row_count, ParserTables}

-- most characters of a text
abbrev pub text_limit : ℕ
text_limit = 200

-- the places between and around them
abbrev pub places : ℕ
places = text_limit + 1

-- most rows
abbrev pub row_limit : ℕ
row_limit = production_limit * (argument_limit + 1)

-- the row of production p and its first d arguments, where production q has arity q of them
unfoldable pub row_of : (ℕ → ℕ) → ℕ → ℕ → ℕ
row_of arity p d = sum_below p (λ q. arity q + 1) + d

-- how many spans a text of n characters has: a row has a cell for each
unfoldable pub span_count : ℕ → ℕ
span_count n = (n + 1) * (n + 2) / 2

-- how many bytes a chart needs: 01's A × (n + 1) × (n + 2) / 2
abbrev pub chart_bytes : (ℕ → ℕ) → ℕ → ℕ → ℕ
chart_bytes arity count n = row_count arity count * span_count n

-- how many it needs by flat tables
abbrev pub chart_need : List ℕ → ℕ → ℕ
chart_need t n = chart_bytes (arity_in (counts_of t)) (length (counts_of t)) n

-- how many spans start before i: n + 1 - k start at k
unfoldable pub start_at : ℕ → ℕ → ℕ
start_at n i = sum_below i (λ k. n + 1 - k)

-- the place of the cell of a row for the span from i to j
unfoldable pub cell_at : ℕ → ℕ → ℕ → ℕ → ℕ
cell_at n row i j = row * span_count n + start_at n i + (j - i)

-- The entry at a place of the chart: the byte there. This is the only way in which an entry is read.
unfoldable pub entry_at : List ℕ → ℕ → ℕ
entry_at chart k = get_or chart k 0

-- A parser can read the tables, a text of n characters is within its limit, and the chart is long enough for it.
pub record ChartFits (t : List ℕ) (n : ℕ) (chart : List ℕ) : Type 0 where
  pub tables : ParserTables t
  pub short : n ≤ text_limit
  pub long_enough : chart_need t n ≤ length chart
