-- `mark` meets its contract: the productions below p are marked, the rest is as it was.
use Prim.Native.Nat.{ℕ, max}
use mathlib.Core.Path.{◌≡◌}
use mathlib.Core.List.{List}
use lib.ListN.{get_or}
use Rattle.common.proofs.FillLaws.{Filled}
use Rattle.span.proofs.mark.Given as goal

-- the mark of production k
unfoldable pub Marked : (pending uses : List ℕ) → ℕ → ℕ → Type 0
Marked pending uses k v = v ≡ max (get_or pending k 0) (get_or uses k 0)

abbrev pub invariant-loop-p : goal.invariant-loop-p
invariant-loop-p l = Filled (Marked l.initial.pending l.uses) 0 l.initial.pending l.p l.pending
