-- `check_argument_counts` meets its contract: no count passed is refused.
use mathlib.Core.Path.{◌≡◌}
use Rattle.grammar.specs.Check.{bad_argument_count}
use Rattle.refusal.specs.Verdict.{first_refusal, accepted}
use Rattle.grammar.proofs.check.check_argument_counts.Given as goal

abbrev pub invariant-loop-p : goal.invariant-loop-p
invariant-loop-p l = first_refusal l.p (bad_argument_count l.book) ≡ accepted
