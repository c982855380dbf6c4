-- What a chart is filled by, and what filling a part of it promises.
use Rattle.std.specs.Prelude.{ℕ, ◌+◌, ◌*◌, ◌≡◌, List, ◌&&◌, eqb, length, get_or}
use Rattle.common.specs.Below.{bit_of}
use Rattle.tables.specs.Layout.{slot, counts_of, arity_in, row_count, takes_char}
use Rattle.tables.specs.Theory.{theory_of}
use Rattle.chart.specs.Layout.{places, row_limit, ChartFits}
use Rattle.chart.specs.Rows.{RowsFilled}
use Rattle.prepare.specs.Prepared.{users_in, empty_in, Prepared}
use Rattle.span.specs.Tables.{span_of, Settled}
use Rattle.fill.specs.Filling.{SmallCells, SmallSums, Filling, Summing}

-- how many rows the tables t have
abbrev pub rows_of : List ℕ → ℕ
rows_of t = row_count (arity_in (counts_of t)) (length (counts_of t))

-- The tables t and what is prepared for them, b, are right; the text w is within its limit, the chart long enough, and a column's sums have their lengths.
pub record Ready (t b w chart sums live : List ℕ) : Type 0 where
  pub fits : ChartFits t (length w) chart
  pub prepared : Prepared t b
  pub sums_long : length sums ≡ row_limit * places
  pub live_long : length live ≡ places

-- No cell of the columns up to j and no sum of column j is above 2.
pub record Small (t w chart sums : List ℕ) (j : ℕ) : Type 0 where
  pub cells : SmallCells (length w) (rows_of t) (j + 1) chart
  pub little : SmallSums (rows_of t) j sums

-- For each row 1 if the text from i to j is a character that may stand as its next argument, else 0.
pub record CharArgs (t w : List ℕ) (i j : ℕ) (args : List ℕ) : Type 0 where
  pub filled : RowsFilled (λ p d. bit_of (eqb (i + 1) j && takes_char t (slot p d) (get_or w i 0))) (counts_of t) (length (counts_of t)) args

-- A span is settled by the links of b and an empty span's cells and arguments: from the bare arguments args and the zeros x come arguments args' and cells x'.
pub record SpanSettled (t b inner front back args x args' x' : List ℕ) : Type 0 where
  pub settled : Settled (span_of (counts_of t) (users_in b) inner front back (λ k. get_or args k 0)) x args' x'

-- From a chart filled up to start i of column j comes one filled up to start i' of that column.
pub record Further (t b w chart sums live : List ℕ) (i j : ℕ) (chart' sums' live' : List ℕ) (i' : ℕ) : Type 0 where
  pub further : (before : List ℕ) → Filling (theory_of t) w (empty_in b) before chart i j → Summing (theory_of t) w (empty_in b) chart sums live i j
      → Filling (theory_of t) w (empty_in b) before chart' i' j × Summing (theory_of t) w (empty_in b) chart' sums' live' i' j

-- From a chart whose columns before j are filled comes one whose columns before j' are.
pub record Onward (t b w chart : List ℕ) (j : ℕ) (chart' : List ℕ) (j' : ℕ) : Type 0 where
  pub onward : (before : List ℕ) → Filling (theory_of t) w (empty_in b) before chart j j → Filling (theory_of t) w (empty_in b) before chart' j' j'
