-- `canonical_arguments` meets its contract: each class passed is held and has its lowest.
use mathlib.Core.Path.{◌≡◌}
use Rattle.classes.proofs.CanonicalLaws.{Filled}
use Rattle.classes.specs.Canonical.{SetsHeld}
use Rattle.layout.specs.Layout.{class_at}
use Rattle.classes.proofs.canonical.canonical_arguments.Given as goal

abbrev pub invariant-loop-k : goal.invariant-loop-k
invariant-loop-k l = (l.at ≡ class_at l.book l.k) × SetsHeld l.book l.k l.sets × Filled l.book l.k l.table
