-- `production_at` meets its contract: before production q is where production q stands.
use mathlib.Core.Path.{◌≡◌}
use Rattle.layout.specs.Layout.{production_at}
use Rattle.layout.proofs.production_at.Given as goal

abbrev pub invariant-loop-q : goal.invariant-loop-q
invariant-loop-q l = l.at ≡ production_at l.book l.q
