-- `class_at` meets its contract: before class j is where class j stands.
use mathlib.Core.Path.{◌≡◌}
use Rattle.layout.specs.Layout.{class_at}
use Rattle.layout.proofs.class_at.Given as goal

abbrev pub invariant-loop-j : goal.invariant-loop-j
invariant-loop-j l = l.at ≡ class_at l.book l.j
