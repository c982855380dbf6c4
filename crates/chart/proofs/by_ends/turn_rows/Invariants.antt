-- `turn_rows` meets its contract: the rows below r are turned, and the rest is as it was.
use Prim.Native.Nat.{◌+◌, ◌*◌, ◌/◌}
use mathlib.Core.Path.{◌≡◌}
use lib.ListN.{length}
use Rattle.chart.specs.Layout.{places}
use Rattle.chart.specs.ByEnds.{Turned}
use Rattle.chart.proofs.by_ends.turn_rows.Given as goal

abbrev pub invariant-loop-r : goal.invariant-loop-r
invariant-loop-r l = Turned l.n l.r l.initial.chart l.chart × (length l.cells ≡ (places * (places + 1) / 2))
