-- `read_lines` meets its contract: behind the bytes passed, the tables hold what is complete.
use Rattle.load.specs.Held.{Reached}
use Rattle.load.proofs.read_lines.Given as goal

abbrev pub invariant-loop-i : goal.invariant-loop-i
invariant-loop-i l = Reached l.text l.i l.state l.tables l.counts
