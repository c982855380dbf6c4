-- Cells stand apart, each row behind the one before it.
use Prim.Native.Nat.{ℕ, zero, suc, ◌+◌, ◌-◌, ◌*◌, ◌/◌, ◌≤◌, ◌<◌}
use mathlib.Core.Path.{◌≡◌, refl, ap}
use mathlib.Core.List.{List}
use mathlib.Core.Logic.{by_cases}
use native.Mathlib.Omega.{arith}
use native.Mathlib.Decide.{dec_lt}
use native.Mathlib.Nat.{mul-le-mul_right, mul-le-mul}
use lib.ListN.{length}
use Rattle.chart.specs.Layout.{text_limit, places, row_limit, row_of, span_count, chart_need, start_at, cell_at, ChartFits}
use Rattle.tables.proofs.LayoutLaws.{counts_few}
use Rattle.tables.specs.Layout.{counts_of, arity_in, row_count, ParserTables}
use Rattle.common.proofs.BelowLaws.{sum_more, sum_bound, sum_grows}
use Rattle.common.specs.Below.{sum_below}
use Rattle.layout.specs.Limits.{production_limit, argument_limit}

-- ---- starts

-- the closed form without its division and its difference
start_twice : (n i : ℕ) → i ≤ n + 1 → 2 * start_at n i + i * i ≡ i * (2 * n + 3)
unfolding start_at sum_below
start_twice n zero h = omega arith
start_twice n (suc i) h = omega (arith, start_twice n i (omega arith))

-- the closed form, and its end
pub start_closed : (n i : ℕ) → i ≤ n + 1 → start_at n i ≡ i * (2 * n + 3 - i) / 2
start_closed n i h =
    let e : 2 * n + 3 - i + i ≡ 2 * n + 3 = omega arith in
    let k : i * (2 * n + 3 - i) ≡ 2 * start_at n i = omega (arith, start_twice n i h, ap (λ (x : ℕ). i * x) e) in
    omega arith

pub start_end : (n : ℕ) → start_at n (n + 1) ≡ span_count n
unfolding span_count
start_end n = let k : (n + 1) * (n + 2) ≡ 2 * start_at n (n + 1) = omega (arith, start_twice n (n + 1) (omega arith)) in omega arith

-- the spans that start at i stand before those that start later
start_grows : (n i k : ℕ) → i < k → start_at n i + (n + 1 - i) ≤ start_at n k
unfolding start_at
start_grows n i k l = sum_grows (λ k. n + 1 - k) i k l

-- ---- cells

-- a cell stands in its row
pub cell_in : (n row i j : ℕ) → i ≤ j → j ≤ n → (row * span_count n ≤ cell_at n row i j) × (cell_at n row i j < (row + 1) * span_count n)
unfolding cell_at
cell_in n row i j h k = (omega arith, omega (arith, start_grows n i (n + 1) (omega arith), start_end n))

-- so it stands in the chart if its row does
pub cell_below : (n row rows i j : ℕ) → row < rows → i ≤ j → j ≤ n → cell_at n row i j < rows * span_count n
cell_below n row rows i j l h k =
    let m : row + 1 ≤ rows = omega arith in
    omega (arith, (cell_in n row i j h k).1, mul-le-mul_right (span_count n) m)

-- the next cell of a row with the same start
pub cell_next : (n row i j k : ℕ) → i ≤ j → cell_at n row i (j + k) ≡ cell_at n row i j + k
unfolding cell_at
cell_next n row i j k h = omega arith

-- a text has few spans, and no cell stands far out
pub span_few : (n : ℕ) → n ≤ text_limit → span_count n ≤ places * (places + 1) / 2
unfolding span_count
span_few n h =
    let k : n + 1 ≤ places = omega arith in
    let l : n + 2 ≤ places + 1 = omega arith in
    omega (arith, mul-le-mul k l)

pub cell_few : (n row i j : ℕ) → n ≤ text_limit → row < row_limit → i ≤ j → j ≤ n → cell_at n row i j < row_limit * (places * (places + 1) / 2)
cell_few n row i j m l h k = omega (arith, cell_below n row row_limit i j l h k, span_few n m)

-- no cell of an earlier row, or of the same row with an earlier start
row_apart : (n row row' i i' j j' : ℕ) → row < row' → i ≤ j → j ≤ n → i' ≤ j' → j' ≤ n → cell_at n row i j < cell_at n row' i' j'
row_apart n row row' i i' j j' l h k h' k' = omega (arith, cell_below n row row' i j l h k, (cell_in n row' i' j' h' k').0)

start_apart : (n row i i' j j' : ℕ) → i < i' → i ≤ j → j ≤ n → cell_at n row i j < cell_at n row i' j'
unfolding cell_at
start_apart n row i i' j j' l h k = omega (arith, start_grows n i i' l)

-- two different cells stand apart
pub cell_same : (n row row' i i' j j' : ℕ) → i ≤ j → j ≤ n → i' ≤ j' → j' ≤ n → cell_at n row i j ≡ cell_at n row' i' j' → (row ≡ row') × (i ≡ i') × (j ≡ j')
unfolding cell_at
cell_same n row row' i i' j j' h k h' k' e = (same_row, same_start, same_end)
  where
    same_row : row ≡ row'
    same_row =
        by_cases (dec_lt row row')
        (λ l. absurd (omega (arith, row_apart n row row' i i' j j' l h k h' k')))
        (λ m. by_cases (dec_lt row' row)
        (λ l. absurd (omega (arith, row_apart n row' row i' i j' j l h' k' h k)))
        (λ l. omega arith))

    here : cell_at n row i j ≡ cell_at n row i' j'
    here = rw (← same_row) at e

    same_start : i ≡ i'
    same_start =
        by_cases (dec_lt i i')
        (λ l. absurd (omega (arith, here, start_apart n row i i' j j' l h k)))
        (λ m. by_cases (dec_lt i' i)
        (λ l. absurd (omega (arith, here, start_apart n row i' i j' j l h' k')))
        (λ l. omega arith))

    same_end : j ≡ j'
    same_end = omega (arith, here, same_start, ap (start_at n) same_start)

-- ---- rows

-- the rows of a production stand before those of a later one
rows_grow : (arity : ℕ → ℕ) (p n : ℕ) → p < n → row_of arity p (arity p) < row_count arity n
unfolding row_of row_count
rows_grow arity p n l = omega (arith, sum_grows (λ q. arity q + 1) p n l)

-- a row stands among those of the first n productions
pub row_in : (arity : ℕ → ℕ) (p d n : ℕ) → p < n → d ≤ arity p → row_of arity p d < row_count arity n
unfolding row_of
row_in arity p d n l h = omega (arith, rows_grow arity p n l)

-- the first row of a production comes after the last of the one before it
pub row_next : (arity : ℕ → ℕ) (p : ℕ) → row_of arity (p + 1) 0 ≡ row_of arity p (arity p) + 1
unfolding row_of
row_next arity p = omega (arith, sum_more p (λ q. arity q + 1))

-- no row of an earlier production
production_apart : (arity : ℕ → ℕ) (p p' d d' : ℕ) → p < p' → d ≤ arity p → row_of arity p d < row_of arity p' d'
unfolding row_of row_count
production_apart arity p p' d d' l h = omega (arith, row_in arity p d p' l h)

-- two different rows stand apart
pub row_same : (arity : ℕ → ℕ) (p p' d d' : ℕ) → d ≤ arity p → d' ≤ arity p' → row_of arity p d ≡ row_of arity p' d' → (p ≡ p') × (d ≡ d')
unfolding row_of
row_same arity p p' d d' h h' e = (same_production_lem, same_count)
  where
    same_production_lem : p ≡ p'
    same_production_lem =
        by_cases (dec_lt p p')
        (λ l. absurd (omega (arith, production_apart arity p p' d d' l h)))
        (λ m. by_cases (dec_lt p' p)
        (λ l. absurd (omega (arith, production_apart arity p' p d' d l h')))
        (λ l. omega arith))

    same_count : d ≡ d'
    same_count = omega (arith, e, ap (λ (q : ℕ). sum_below q (λ r. arity r + 1)) same_production_lem)

-- one argument further is the next row
pub row_shift : (arity : ℕ → ℕ) (p d : ℕ) → row_of arity p d + 1 ≡ row_of arity p (d + 1)
unfolding row_of
row_shift arity p d = omega arith

-- rows are few
pub rows_few : (arity : ℕ → ℕ) (n : ℕ) → n ≤ production_limit → ((p : ℕ) → arity p ≤ argument_limit) → row_count arity n ≤ row_limit
unfolding row_count
rows_few arity n l h = omega (arith, sum_bound (argument_limit + 1) (λ q. arity q + 1) (λ q. omega (arith, h q)) n)

-- so no row stands far back
pub row_below : (counts : List ℕ) (p d : ℕ) → length counts ≤ production_limit → ((k : ℕ) → arity_in counts k ≤ argument_limit) → p < length counts → d ≤ arity_in counts p → row_of (arity_in counts) p d < row_limit
row_below counts p d few short l h = omega (arith, row_in (arity_in counts) p d (length counts) l h, rows_few (arity_in counts) (length counts) few short)

-- those of tables that a parser can read
pub table_rows_few : (t : List ℕ) → ParserTables t → row_count (arity_in (counts_of t)) (length (counts_of t)) ≤ row_limit
table_rows_few t h = rows_few (arity_in (counts_of t)) (length (counts_of t)) (counts_few t h) h.few_arguments

-- so the need for a text is small
pub need_few : (t : List ℕ) (n : ℕ) → ParserTables t → n ≤ text_limit → chart_need t n ≤ row_limit * (places * (places + 1) / 2)
need_few t n h l = mul-le-mul (table_rows_few t h) (span_few n l)

-- the row of a production with some of its arguments comes behind the rows of those before it
pub row_of_count : (arity : ℕ → ℕ) (p d : ℕ) → row_count arity p + d ≡ row_of arity p d
unfolding row_of row_count
row_of_count arity p d = refl

-- the rows of a production stand one behind the other
pub row_of_base : (arity : ℕ → ℕ) (p d : ℕ) → row_of arity p 0 + d ≡ row_of arity p d
unfolding row_of
row_of_base arity p d = omega arith

-- the first row of the next production
pub row_base : (arity : ℕ → ℕ) (p : ℕ) → row_of arity (p + 1) 0 ≡ row_of arity p 0 + (arity p + 1)
unfolding row_of
row_base arity p = omega (arith, sum_more p (λ q. arity q + 1))

-- the row of an entry, behind the first row of its production, stands in the chart
pub entry_row : (t : List ℕ) (n : ℕ) (chart : List ℕ) (p d row : ℕ) → ChartFits t n chart → p < length (counts_of t) → d ≤ arity_in (counts_of t) p → row ≡ row_count (arity_in (counts_of t)) p
    → (row + d < row_limit) × ((row + d + 1) * span_count n ≤ length chart)
entry_row t n chart p d row f l h e =
    let arity = arity_in (counts_of t) in
    let m : row + d + 1 ≤ row_count arity (length (counts_of t)) = omega (arith, row_of_count arity p d, row_in arity p d (length (counts_of t)) l h) in
    (omega (arith, table_rows_few t f.tables), omega (arith, mul-le-mul_right (span_count n) m, f.long_enough))
