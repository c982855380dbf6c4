-- `sums_at` meets its contract: the sums of the rows below r are read.
use Prim.Native.Nat.{ℕ, ◌+◌, ◌*◌}
use mathlib.Core.Path.{◌≡◌}
use mathlib.Core.List.{List}
use lib.ListN.{get_or}
use Rattle.chart.specs.Layout.{places}
use Rattle.common.proofs.FillLaws.{Filled}
use Rattle.column.proofs.sums_at.Given as goal

-- the sum of a row
unfoldable pub Sum : (sums : List ℕ) (i r v : ℕ) → Type 0
Sum sums i r v = v ≡ get_or sums (r * places + i) 0

abbrev pub invariant-loop-r : goal.invariant-loop-r
invariant-loop-r l = Filled (Sum l.sums l.i) 0 l.initial.out l.r l.out
