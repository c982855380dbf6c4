-- `used_more` meets its contract: the places below p are marked as the counts there say, the rest is as it was.
use Prim.Native.Nat.{ℕ, ◌<◌}
use mathlib.Core.Bool.{Bool, false, true}
use mathlib.Core.List.{List}
use mathlib.Core.Logic.{◌↔◌}
use mathlib.Core.Path.{◌≡◌}
use lib.ListN.{replicate}
use Rattle.common.proofs.FillLaws.{Filled}
use Rattle.layout.specs.Limits.{production_limit}
use Rattle.order.specs.Order.{counted}
use Rattle.order.proofs.used_more.Given as goal

-- what stands at place k of the row
unfoldable pub Marked : (counts others : List ℕ) → ℕ → ℕ → Bool → Type 0
Marked counts others count k v = (v ≡ true) ↔ ((k < count) × (counted others k < counted counts k))

abbrev pub invariant-loop-p : goal.invariant-loop-p
invariant-loop-p l = Filled (Marked l.counts l.others l.count) false (replicate production_limit false) l.p l.more
