-- Where cells stand while the chart is filled: apart, each row behind the one before it.
use Prim.Native.Nat.{ℕ, zero, suc, ◌+◌, ◌*◌, ◌/◌, ◌≤◌, ◌<◌}
use mathlib.Core.Path.{◌≡◌, refl, ◌∙◌, ap, ap₂}
use mathlib.Core.List.{List}
use mathlib.Core.Logic.{by_cases}
use native.Mathlib.Omega.{arith}
use native.Mathlib.Decide.{dec_lt}
use native.Mathlib.Nat.{mul-le-mul, mul-le-mul_right}
use lib.ListN.{get_or}
use Rattle.chart.proofs.LayoutLaws.{span_few}
use Rattle.chart.specs.Layout.{text_limit, places, row_limit, span_count, entry_at}
use Rattle.chart.specs.ByEnds.{column_at, place_at}
use Rattle.common.proofs.BelowLaws.{sum_grows}
use Rattle.common.specs.Below.{sum_below}
use Rattle.theory.specs.Steps.{cap}

-- ---- columns

-- the closed form without its division
column_twice : (j : ℕ) → 2 * column_at j ≡ j * (j + 1)
unfolding column_at sum_below
column_twice zero = refl
column_twice (suc j) = omega (arith, column_twice j)

pub column_closed : (j : ℕ) → column_at j ≡ j * (j + 1) / 2
column_closed j = omega (arith, column_twice j)

pub column_end : (n : ℕ) → column_at (n + 1) ≡ span_count n
unfolding span_count
column_end n = let k : (n + 1) * (n + 2) ≡ 2 * column_at (n + 1) = omega (arith, column_twice (n + 1)) in omega arith

-- the spans that end at j stand before those that end later
pub column_grows : (j k : ℕ) → j < k → column_at j + (j + 1) ≤ column_at k
unfolding column_at
column_grows j k l = sum_grows (λ k. k + 1) j k l

-- a row has a cell for each of them
pub column_in : (n i j : ℕ) → i ≤ j → j ≤ n → column_at j + i < span_count n
column_in n i j h k = omega (arith, column_grows j (n + 1) (omega arith), column_end n)

-- ---- places

-- a cell stands in its row
pub place_in : (n row i j : ℕ) → i ≤ j → j ≤ n → (row * span_count n ≤ place_at n row i j) × (place_at n row i j < (row + 1) * span_count n)
unfolding place_at
place_in n row i j h k = (omega arith, omega (arith, column_grows j (n + 1) (omega arith), column_end n))

-- so it stands in the chart if its row does
pub place_below : (n row rows i j : ℕ) → row < rows → i ≤ j → j ≤ n → place_at n row i j < rows * span_count n
place_below n row rows i j l h k =
    let m : row + 1 ≤ rows = omega arith in
    omega (arith, (place_in n row i j h k).1, mul-le-mul_right (span_count n) m)

-- no cell stands far out
pub place_few : (n row i j : ℕ) → n ≤ text_limit → row < row_limit → i ≤ j → j ≤ n → place_at n row i j < row_limit * (places * (places + 1) / 2)
place_few n row i j m l h k = omega (arith, place_below n row row_limit i j l h k, span_few n m)

-- the cell of the same row and end with a later start
pub place_next : (n row j k : ℕ) → place_at n row k j ≡ place_at n row 0 j + k
unfolding place_at
place_next n row j k = omega arith

-- where it stands in its row
pub place_of_row : (n row i j : ℕ) → row * span_count n + (column_at j + i) ≡ place_at n row i j
unfolding place_at
place_of_row n row i j = omega arith

-- no cell of an earlier row, or of the same row with an earlier end
pub row_before : (n row row' i i' j j' : ℕ) → row < row' → i ≤ j → j ≤ n → i' ≤ j' → j' ≤ n → place_at n row i j < place_at n row' i' j'
row_before n row row' i i' j j' l h k h' k' = omega (arith, place_below n row row' i j l h k, (place_in n row' i' j' h' k').0)

end_before : (n row i i' j j' : ℕ) → j < j' → i ≤ j → place_at n row i j < place_at n row i' j'
unfolding place_at
end_before n row i i' j j' l h = omega (arith, column_grows j j' l)

-- two different cells stand apart
pub place_same : (n row row' i i' j j' : ℕ) → i ≤ j → j ≤ n → i' ≤ j' → j' ≤ n → place_at n row i j ≡ place_at n row' i' j' → (row ≡ row') × (i ≡ i') × (j ≡ j')
unfolding place_at
place_same n row row' i i' j j' h k h' k' e = (same_row, same_start, same_end)
  where
    same_row : row ≡ row'
    same_row =
        by_cases (dec_lt row row')
        (λ l. absurd (omega (arith, row_before n row row' i i' j j' l h k h' k')))
        (λ m. by_cases (dec_lt row' row)
        (λ l. absurd (omega (arith, row_before n row' row i' i j' j l h' k' h k)))
        (λ l. omega arith))

    at_row : place_at n row i j ≡ place_at n row i' j'
    at_row = rw (← same_row) at e

    same_end : j ≡ j'
    same_end =
        by_cases (dec_lt j j')
        (λ l. absurd (omega (arith, at_row, end_before n row i i' j j' l h)))
        (λ m. by_cases (dec_lt j' j)
        (λ l. absurd (omega (arith, at_row, end_before n row i' i j' j l h')))
        (λ l. omega arith))

    same_start : i ≡ i'
    same_start = omega (arith, at_row, same_end, ap column_at same_end)

-- ---- the inner loop

-- a cell times what may stand behind it is a byte
pub product_small : (x y : ℕ) → x ≤ 2 → y ≤ 2 → x * y ≤ 4
product_small x y h k = omega (arith, mul-le-mul h k)

-- the cell that is read
module _ (chart : List ℕ) (n row m from k : ℕ) (e : from ≡ place_at n row 0 m) where
  cell_read : get_or chart (from + k) 0 ≡ entry_at chart (place_at n row k m)
  unfolding entry_at
  cell_read = ap (λ (x : ℕ). get_or chart x 0) (omega (arith, e, place_next n row m k))

  pub cell_small : entry_at chart (place_at n row k m) ≤ 2 → get_or chart (from + k) 0 ≤ 2
  cell_small h = omega (arith, cell_read)

  -- the sum that is made of it and of the sum so far, which is as it was
  pub sum_made : (sums₀ sums : List ℕ) (arg at v : ℕ) → v ≡ cap (get_or sums (at + k) 0 + get_or chart (from + k) 0 * arg) → get_or sums (at + k) 0 ≡ get_or sums₀ (at + k) 0
      → v ≡ cap (get_or sums₀ (at + k) 0 + entry_at chart (place_at n row k m) * arg)
  sum_made sums₀ sums arg at v h o = h ∙ ap₂ (λ (x y : ℕ). cap (x + y * arg)) o cell_read
