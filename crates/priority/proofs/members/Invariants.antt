-- `members` meets its contract: the places from `first` to y are marked, the rest is as it was.
use Prim.Native.Nat.{ℕ}
use mathlib.Core.Bool.{Bool, false}
use mathlib.Core.Path.{◌≡◌}
use lib.ListN.{replicate}
use Rattle.common.proofs.FillLaws.{Filled}
use Rattle.common.specs.Below.{between}
use Rattle.layout.specs.Limits.{production_limit}
use Rattle.priority.proofs.members.Given as goal

-- what stands at place k of the row
unfoldable pub Member : ℕ → ℕ → ℕ → Bool → Type 0
Member first second k v = v ≡ between first second k

abbrev pub invariant-loop-y : goal.invariant-loop-y
invariant-loop-y l = Filled (Member l.first l.second) false (replicate production_limit false) l.y l.row
