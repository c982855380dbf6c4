-- `root_sum` meets its contract: the productions below p are summed up.
use Prim.Native.Nat.{◌*◌, ◌≤◌}
use mathlib.Core.Path.{◌≡◌}
use Rattle.common.specs.Below.{sum_below}
use Rattle.common.specs.Bytes.{byte_values}
use Rattle.engine.specs.Roots.{root_term}
use Rattle.engine.proofs.root_sum.Given as goal

abbrev pub invariant-loop-p : goal.invariant-loop-p
invariant-loop-p l = (l.sum ≡ sum_below l.p (root_term l.tables l.text l.chart)) × (l.sum ≤ l.p * byte_values)
