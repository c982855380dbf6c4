-- `check_repeated` meets its contract: no production passed is equal to an earlier one.
use mathlib.Core.Path.{◌≡◌}
use Rattle.grammar.specs.Check.{repeated_production}
use Rattle.refusal.specs.Verdict.{first_refusal, accepted}
use Rattle.layout.specs.Layout.{production_at}
use Rattle.grammar.proofs.check.check_repeated.Given as goal

abbrev pub invariant-loop-p : goal.invariant-loop-p
invariant-loop-p l = (l.at ≡ production_at l.book l.p) × (first_refusal l.p (repeated_production l.book) ≡ accepted)
