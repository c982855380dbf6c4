-- `with_group` meets its contract: the rows from `first` to x have the group, the rest is as it was.
use Prim.Native.Nat.{ℕ, ◌<◌}
use mathlib.Core.Bool.{Bool, false, ◌&&◌, ◌||◌}
use mathlib.Core.List.{List, []}
use mathlib.Core.Path.{◌≡◌}
use lib.ListN.{length, get_or}
use Rattle.common.proofs.FillLaws.{Filled}
use Rattle.common.specs.Below.{between}
use Rattle.layout.specs.Limits.{production_limit}
use Rattle.priority.specs.Chain.{entry}
use Rattle.priority.proofs.with_group.Given as goal

-- what row x of the wider table holds
pub record Grouped (table : List (List Bool)) (first second x : ℕ) (row : List Bool) : Type 0 where
  pub long : x < production_limit → length row ≡ production_limit
  pub entries : (y : ℕ) → get_or row y false ≡ (entry table x y || between first second x && between first second y)

abbrev pub invariant-loop-x : goal.invariant-loop-x
invariant-loop-x l = Filled (Grouped l.initial.wider l.first l.second) [] l.initial.wider l.x l.wider
