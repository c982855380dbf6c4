-- `check_circles` meets its contract: no production passed is higher than itself.
use mathlib.Core.Path.{◌≡◌}
use Rattle.refusal.specs.Verdict.{first_refusal, accepted}
use Rattle.priority.specs.Check.{on_diagonal}
use Rattle.priority.proofs.check_circles.Given as goal

abbrev pub invariant-loop-p : goal.invariant-loop-p
invariant-loop-p l = first_refusal l.p (on_diagonal l.table) ≡ accepted
