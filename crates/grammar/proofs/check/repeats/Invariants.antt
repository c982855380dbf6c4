-- `repeats` meets its contract: no earlier production passed is equal.
use mathlib.Core.Path.{◌≡◌}
use mathlib.Core.Bool.{false}
use Rattle.common.specs.Below.{any_below}
use Rattle.grammar.specs.Check.{same_production}
use Rattle.layout.specs.Layout.{production_at}
use Rattle.grammar.proofs.check.repeats.Given as goal

abbrev pub invariant-loop-q : goal.invariant-loop-q
invariant-loop-q l = (l.other ≡ production_at l.book l.q) × (any_below l.q (same_production l.book l.p) ≡ false)
