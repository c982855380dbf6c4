-- `check_names` meets its contract: none of the lines passed has such a number.
use mathlib.Core.Path.{◌≡◌}
use Rattle.ccg.specs.Tables.{table_grammar}
use Rattle.refusal.specs.Verdict.{first_refusal, accepted}
use Rattle.load.specs.Absent.{absent_in_line_at}
use Rattle.load.proofs.check_names.Given as goal

abbrev pub invariant-loop-p : goal.invariant-loop-p
invariant-loop-p l = first_refusal l.p (absent_in_line_at (table_grammar l.tables)) ≡ accepted
