-- `check_productions` meets its contract: no production passed is refused.
use mathlib.Core.Path.{◌≡◌}
use Rattle.grammar.specs.Check.{bad_production}
use Rattle.refusal.specs.Verdict.{first_refusal, accepted}
use Rattle.layout.specs.Layout.{production_at}
use Rattle.grammar.proofs.check.check_productions.Given as goal

abbrev pub invariant-loop-p : goal.invariant-loop-p
invariant-loop-p l = (l.at ≡ production_at l.book l.p) × (first_refusal l.p (bad_production l.book) ≡ accepted)
