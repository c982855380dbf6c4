-- `store_cells` meets its contract: the cells of the rows below r are written.
use Prim.Native.Nat.{ℕ}
use lib.ListN.{get_or}
use Rattle.chart.specs.ByEnds.{place_at}
use Rattle.column.specs.Scattered.{Scattered}
use Rattle.column.proofs.store_cells.Given as goal

abbrev pub invariant-loop-r : goal.invariant-loop-r
invariant-loop-r l = Scattered (λ (k : ℕ). place_at l.n k l.i l.j) (λ (k : ℕ). get_or l.cells k 0) l.r l.initial.chart l.chart
