-- Turning the chart, start by start and row by row: nothing done, and one more.
use Prim.Native.Nat.{ℕ, ◌+◌, ◌-◌, ◌*◌, ◌≤◌, ◌<◌}
use mathlib.Core.Path.{◌≡◌, refl, sym, ◌∙◌, ap, subst₂}
use mathlib.Core.List.{List}
use native.Mathlib.Omega.{arith}
use native.Mathlib.Decide.{ℕ_discrete}
use lib.ListN.{length, get_or, set}
use Rattle.chart.proofs.LayoutLaws.{cell_in, cell_below, cell_next, cell_same}
use Rattle.chart.specs.Layout.{span_count, cell_at, entry_at}
use Rattle.chart.proofs.ByEndsLaws.{column_in, place_in, place_of_row}
use Rattle.common.proofs.RegionLaws.{region_others, front_inside, region_more}
use Rattle.chart.specs.ByEnds.{column_at, place_at, RowTurned, Turned}
use Rattle.common.specs.Region.{Region}

-- ---- one start

-- the cell from i to i + k, as a copy of the row by ends has it
abbrev ReadFrom : (cells : List ℕ) (i k v : ℕ) → Type 0
ReadFrom cells i k v = v ≡ get_or cells (column_at (i + k) + i) 0

-- The cells of a row that start at i and end before j stand where the chart has them, read from a copy of the row.
abbrev pub EndsTurned : (n row i j : ℕ) (cells l₀ l : List ℕ) → Type 0
EndsTurned n row i j cells l₀ l = Region (ReadFrom cells i) 0 (cell_at n row i i) (j - i) l₀ l

module _ (n row i : ℕ) (cells l₀ : List ℕ) where
  pub ends_more : (j at : ℕ) (l l' : List ℕ) → i ≤ j → j ≤ n → (row + 1) * span_count n ≤ length l₀ → at ≡ column_at j → l' ≡ set l (cell_at n row i j) (get_or cells (at + i) 0)
      → EndsTurned n row i j cells l₀ l → EndsTurned n row i (j + 1) cells l₀ l'
  ends_more j at l l' h o room e d s =
      let back : i + (j - i) ≡ j = omega arith in
      let next : j - i + 1 ≡ j + 1 - i = omega arith in
      let place : cell_at n row i i + (j - i) ≡ cell_at n row i j = omega (arith, cell_next n row i i (j - i) (omega arith), ap (cell_at n row i) back) in
      let same : get_or cells (at + i) 0 ≡ get_or cells (column_at (i + (j - i)) + i) 0 = ap (λ (x : ℕ). get_or cells (x + i) 0) (e ∙ ap column_at (sym back)) in
      let more = region_more (ReadFrom cells i) 0 (cell_at n row i i) l₀ (j - i) l (get_or cells (at + i) 0) (omega (arith, place, (cell_in n row i j h o).1)) s same in
      subst₂ (λ (k : ℕ) (x : List ℕ). Region (ReadFrom cells i) 0 (cell_at n row i i) k l₀ x) next (ap (λ (x : ℕ). set l x (get_or cells (at + i) 0)) place ∙ sym d) more

-- ---- one row

-- a copy of a row, if its length was computed twice
pub row_copied : (n row s₁ s₂ : ℕ) (l₀ out copy : List ℕ) → s₁ ≡ span_count n → s₂ ≡ span_count n → Region (λ (k v : ℕ). v ≡ get_or l₀ (row * s₁ + k) 0) 0 0 s₂ out copy
    → (k : ℕ) → k < span_count n → get_or copy k 0 ≡ get_or l₀ (row * span_count n + k) 0
row_copied n row s₁ s₂ l₀ out copy e₁ e₂ r k h = front_inside (λ (k v : ℕ). v ≡ get_or l₀ (row * s₁ + k) 0) s₂ out copy r k (omega arith) ∙ ap (λ (x : ℕ). get_or l₀ (row * x + k) 0) e₁

-- The cells of a row that start before i are turned; other rows are as they were.
pub record StartsTurned (n row i : ℕ) (l₀ l : List ℕ) : Type 0 where
  pub long : length l ≡ length l₀
  pub cells : (k j : ℕ) → k < i → k ≤ j → j ≤ n → entry_at l (cell_at n row k j) ≡ entry_at l₀ (place_at n row k j)
  pub below : (k : ℕ) → k < row * span_count n → get_or l k 0 ≡ get_or l₀ k 0
  pub above : (k : ℕ) → (row + 1) * span_count n ≤ k → get_or l k 0 ≡ get_or l₀ k 0

module _ (n row : ℕ) (l₀ : List ℕ) where
  -- one start more, read from a copy of the row
  module _ (i : ℕ) (copy l l' : List ℕ) (within : i ≤ n) (copied : (k : ℕ) → k < span_count n → get_or copy k 0 ≡ get_or l₀ (row * span_count n + k) 0)
      (s : StartsTurned n row i l₀ l) (w : EndsTurned n row i (n + 1) copy l l') where
    cell_of_start : (k : ℕ) → cell_at n row i i + k ≡ cell_at n row i (i + k)
    cell_of_start k = omega (arith, cell_next n row i i k (omega arith))

    -- the cells of this start
    written : (j : ℕ) → i ≤ j → j ≤ n → entry_at l' (cell_at n row i j) ≡ entry_at l₀ (place_at n row i j)
    unfolding entry_at
    written j h o =
        let back : i + (j - i) ≡ j = omega arith in
        let place : cell_at n row i j ≡ cell_at n row i i + (j - i) = omega (arith, cell_of_start (j - i), ap (cell_at n row i) back) in
        ap (λ (x : ℕ). get_or l' x 0) place ∙ w.inside (j - i) (omega arith) ∙ ap (λ (x : ℕ). get_or copy (column_at x + i) 0) back
        ∙ copied (column_at j + i) (column_in n i j h o) ∙ ap (λ (x : ℕ). get_or l₀ x 0) (place_of_row n row i j)

    -- a cell of an earlier start is not written again
    apart : (k j x : ℕ) → k < i → k ≤ j → j ≤ n → x < n + 1 - i → cell_at n row k j ≡ cell_at n row i i + x → ⊥
    apart k j x h o p q e = omega (arith, (cell_same n row row k i j (i + x) o p (omega arith) (omega arith) (e ∙ cell_of_start x)).1)

    pub starts_more : StartsTurned n row (i + 1) l₀ l'
    unfolding entry_at
    starts_more =
        record {
          long = w.long ∙ s.long;
          cells = λ k j h o p. elim (ℕ_discrete k i) [
            | yes e ↦ rw (e) (written j (omega arith) p)
            | no e ↦ region_others (ReadFrom copy i) (cell_at n row i i) (n + 1 - i) l l' w (cell_at n row k j) (λ x. apart k j x (omega arith) o p)
                ∙ s.cells k j (omega arith) o p
          ];
          below = λ k h. w.below k (omega (arith, (cell_in n row i i (omega arith) within).0)) ∙ s.below k h;
          above = λ k h. w.above k (omega (arith, cell_of_start (n - i), (cell_in n row i (i + (n - i)) (omega arith) (omega arith)).1)) ∙ s.above k h;
        }

-- ---- all rows

module _ (n : ℕ) (l₀ : List ℕ) where
  pub turned_none : Turned n 0 l₀ l₀
  turned_none = record { long = refl; cells = λ r i j h. absurd (omega arith); beyond = λ k h. refl }

  pub turned_more : (r : ℕ) (l l' : List ℕ) → Turned n r l₀ l → RowTurned n r l l' → Turned n (r + 1) l₀ l'
  unfolding entry_at
  turned_more r l l' s w =
      record {
        long = w.long ∙ s.long;
        cells = λ q i j h o p. elim (ℕ_discrete q r) [
          | yes e ↦ rw (e) (w.cells i j o p ∙ s.beyond (place_at n r i j) (place_in n r i j o p).0)
          | no e ↦ w.below (cell_at n q i j) (cell_below n q r i j (omega arith) o p) ∙ s.cells q i j (omega arith) o p
        ];
        beyond = λ k h. w.above k h ∙ s.beyond k (omega arith);
      }
