-- `check_declarations` meets its contract: no declaration passed is refused.
use mathlib.Core.Path.{◌≡◌}
use Rattle.grammar.specs.Check.{bad_declaration}
use Rattle.refusal.specs.Verdict.{first_refusal, accepted}
use Rattle.layout.specs.Layout.{declaration_at}
use Rattle.grammar.proofs.check.check_declarations.Given as goal

abbrev pub invariant-loop-d : goal.invariant-loop-d
invariant-loop-d l = (l.at ≡ declaration_at l.book l.d) × (first_refusal l.d (bad_declaration l.book) ≡ accepted)
