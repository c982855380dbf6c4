-- `read_lines` meets its contract: line by line the summary comes about.
use Prim.Native.Nat.{◌-◌}
use mathlib.Core.Path.{◌≡◌}
use lib.ListN.{length}
use Rattle.sheet.proofs.SummedLaws.{SoFar}
use Rattle.sheet.specs.Outcome.{TablesLine}
use Rattle.sheet.proofs.read_lines.Given as goal

abbrev pub invariant-loop-start : goal.invariant-loop-start
invariant-loop-start l = SoFar (TablesLine l.tables) l.sheet l.initial.chart l.initial.summary l.chart l.summary l.line l.start × (length l.chart ≡ length l.initial.chart) × (length l.summary ≡ length l.initial.summary)

abbrev pub decreases-loop-start : goal.decreases-loop-start
decreases-loop-start l = length l.sheet - l.start
