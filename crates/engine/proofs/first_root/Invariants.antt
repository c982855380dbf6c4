-- `first_root` meets its contract: the productions below p have none, so there is one from p on.
use mathlib.Core.Path.{◌≡◌}
use Rattle.common.specs.Below.{sum_below}
use Rattle.engine.specs.Roots.{root_term}
use Rattle.engine.proofs.first_root.Given as goal

abbrev pub invariant-loop-p : goal.invariant-loop-p
invariant-loop-p l = sum_below l.p (root_term l.tables l.text l.chart) ≡ 0
