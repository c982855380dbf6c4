-- `store_cells` meets its contract: the cells of the rows below r are written.
use Prim.Native.Nat.{ℕ, ◌+◌, ◌*◌, ◌≤◌, ◌<◌}
use mathlib.Core.Path.{◌≡◌, subst⁻¹}
use mathlib.Core.List.{List}
use native.Mathlib.Omega.{arith}
use lib.ListN.{length, get_or, set}
use Rattle.chart.specs.Layout.{span_count}
use Rattle.chart.proofs.ByEndsLaws.{place_below, place_same}
use Rattle.column.proofs.ScatteredLaws.{scattered_more}
use Rattle.chart.specs.ByEnds.{place_at}
use Rattle.column.specs.Scattered.{Scattered}
use Rattle.column.proofs.store_cells.Goals as goal

-- the cell of one row more, which stands apart from those before it
row_stored : (n i j rows r : ℕ) (cells l₀ l l' : List ℕ) → i ≤ j → j ≤ n → r < rows → rows * span_count n ≤ length l₀ → l' ≡ set l (place_at n r i j) (get_or cells r 0)
    → Scattered (λ (k : ℕ). place_at n k i j) (λ (k : ℕ). get_or cells k 0) r l₀ l → Scattered (λ (k : ℕ). place_at n k i j) (λ (k : ℕ). get_or cells k 0) (r + 1) l₀ l'
row_stored n i j rows r cells l₀ l l' ij jn few room e s =
    let apart : (k : ℕ) → k < r → place_at n k i j ≡ place_at n r i j → ⊥ = λ k o d. omega (arith, (place_same n k r i i j j ij jn ij jn d).0) in
    let found : place_at n r i j < length l₀ = omega (arith, place_below n r rows i j few ij jn) in
    subst⁻¹ (λ (x : List ℕ). Scattered (λ (k : ℕ). place_at n k i j) (λ (k : ℕ). get_or cells k 0) (r + 1) l₀ x) e (scattered_more (λ (k : ℕ). place_at n k i j) (λ (k : ℕ). get_or cells k 0) l₀ r l apart found s)

pub loop-r-preserved : goal.loop-r-preserved
loop-r-preserved c =
    let a = c.args in
    row_stored a.n a.i a.j a.rows c.loop-r.r a.cells.now a.chart.now c.loop-r.chart c.store.new.chart (omega arith) (omega arith) (omega arith) (omega arith) c.store.ensures c.loop-r.invariant
