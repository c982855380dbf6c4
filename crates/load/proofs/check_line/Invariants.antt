-- `check_line` meets its contract: none of the arguments passed has such a number.
use mathlib.Core.Path.{◌≡◌}
use lib.ListN.{length}
use Rattle.ccg.specs.Tables.{table_line}
use Rattle.refusal.specs.Verdict.{first_refusal, accepted}
use Rattle.load.specs.Absent.{absent_in_argument}
use Rattle.tables.specs.Layout.{counts_of}
use Rattle.load.proofs.check_line.Given as goal

abbrev pub invariant-loop-i : goal.invariant-loop-i
invariant-loop-i l = (first_refusal l.i (absent_in_argument (length (counts_of l.tables)) (table_line l.tables l.p)) ≡ accepted)
