-- `check_arguments` meets its contract: no argument passed is refused.
use mathlib.Core.Path.{◌≡◌}
use Rattle.grammar.specs.Check.{bad_argument}
use Rattle.refusal.specs.Verdict.{first_refusal, accepted}
use Rattle.grammar.proofs.check.check_arguments.Given as goal

abbrev pub invariant-loop-i : goal.invariant-loop-i
invariant-loop-i l = first_refusal l.i (bad_argument l.book l.p) ≡ accepted
