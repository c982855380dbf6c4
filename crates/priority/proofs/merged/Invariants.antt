-- `merged` meets its contract: the places below y are merged, the rest is the row.
use Prim.Native.Nat.{ℕ}
use mathlib.Core.Path.{◌≡◌}
use mathlib.Core.Bool.{Bool, false, ◌||◌}
use mathlib.Core.List.{List}
use lib.ListN.{get_or}
use Rattle.common.proofs.FillLaws.{Filled}
use Rattle.priority.proofs.merged.Given as goal

-- what stands at place k of the merged row
unfoldable pub Joined : List Bool → List Bool → ℕ → Bool → Type 0
Joined row other k v = v ≡ (get_or row k false || get_or other k false)

abbrev pub invariant-loop-y : goal.invariant-loop-y
invariant-loop-y l = Filled (Joined l.initial.out l.other) false l.initial.out l.y l.out
