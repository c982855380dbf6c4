-- `leads_on` meets its contract: an entry passed is true exactly if one was found.
use Prim.Native.Nat.{ℕ, ◌≤◌}
use mathlib.Core.Bool.{Bool, false}
use mathlib.Core.List.{List}
use mathlib.Core.Path.{◌≡◌}
use lib.ListN.{get_or}
use Rattle.common.specs.Below.{any_below}
use Rattle.layout.specs.Limits.{production_limit}
use Rattle.priority.proofs.leads_on.Given as goal

-- the entry at y
unfoldable pub at : List Bool → ℕ → Bool
at row y = get_or row y false

abbrev pub invariant-loop-y : goal.invariant-loop-y
invariant-loop-y l = (l.y ≤ production_limit) × (l.found ≡ any_below l.y (at l.row))
