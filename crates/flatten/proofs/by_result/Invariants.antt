-- `by_result` meets its contract: the productions passed are in the sets of their results.
use mathlib.Core.Path.{◌≡◌}
use Rattle.flatten.specs.Tables.{ByResult}
use Rattle.layout.specs.Layout.{production_at}
use Rattle.flatten.proofs.by_result.Given as goal

abbrev pub invariant-loop-q : goal.invariant-loop-q
invariant-loop-q l = ByResult l.book l.q l.sets × (l.at ≡ production_at l.book l.q)
