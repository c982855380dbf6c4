-- `fill_rows` meets its contract: the rows of the productions below p are written.
use Prim.Native.Nat.{ℕ, ◌<◌}
use mathlib.Core.Path.{◌≡◌}
use lib.ListN.{length}
use Rattle.chart.specs.Layout.{row_of}
use Rattle.chart.specs.Rows.{RowsFilled}
use Rattle.tables.specs.Layout.{arity_in}
use Rattle.chart.proofs.rows.fill_rows.Given as goal

abbrev pub invariant-loop-p : goal.invariant-loop-p
invariant-loop-p g l =
    ((v : ℕ → ℕ → ℕ) → ((p d r : ℕ) → p < length l.counts → d < arity_in l.counts p → goal.F-post g l.value p d r → r ≡ v p d) → RowsFilled v l.counts l.p l.out)
    × (l.base ≡ row_of (arity_in l.counts) l.p 0)
