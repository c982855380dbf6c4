-- `check_range_counts` meets its contract: no count passed is refused.
use mathlib.Core.Path.{◌≡◌}
use Rattle.grammar.specs.Check.{bad_range_count}
use Rattle.refusal.specs.Verdict.{first_refusal, accepted}
use Rattle.grammar.proofs.check.check_range_counts.Given as goal

abbrev pub invariant-loop-k : goal.invariant-loop-k
invariant-loop-k l = first_refusal l.k (bad_range_count l.book) ≡ accepted
