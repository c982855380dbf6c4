-- `check_class` meets its contract: none of the numbers passed is in the class.
use mathlib.Core.Path.{◌≡◌}
use Rattle.ccg.specs.Tables.{table_class}
use Rattle.refusal.specs.Verdict.{first_refusal, accepted}
use Rattle.load.specs.Absent.{absent_at}
use Rattle.load.proofs.check_class.Given as goal

abbrev pub invariant-loop-k : goal.invariant-loop-k
invariant-loop-k l = first_refusal l.k (absent_at l.count (table_class l.tables l.s)) ≡ accepted
