-- `with_middle` meets its contract: the rows below x may pass through the middle, the rest is as it was.
use Prim.Native.Nat.{ℕ}
use mathlib.Core.Path.{◌≡◌}
use mathlib.Core.Bool.{Bool, false, ◌&&◌, ◌||◌}
use mathlib.Core.List.{List, []}
use lib.ListN.{get_or}
use Rattle.common.proofs.FillLaws.{Filled}
use Rattle.priority.specs.Chain.{entry}
use Rattle.priority.proofs.with_middle.Given as goal

-- what row x of the wider table holds
unfoldable pub Passes : List (List Bool) → ℕ → ℕ → List Bool → Type 0
Passes table middle x row = (y : ℕ) → get_or row y false ≡ (entry table x y || entry table x middle && entry table middle y)

abbrev pub invariant-loop-x : goal.invariant-loop-x
invariant-loop-x l = Filled (Passes l.initial.wider l.middle) [] l.initial.wider l.x l.wider
