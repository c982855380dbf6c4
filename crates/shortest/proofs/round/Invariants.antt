-- `round` meets its contract.
use Prim.Native.Nat.{ℕ}
use Rattle.shortest.proofs.RoundLaws.{Midway}
use Rattle.shortest.specs.Search.{Rounds}
use Rattle.shortest.proofs.round.Given as goal

abbrev pub invariant-loop-d : goal.invariant-loop-d
invariant-loop-d l = (y : ℕ) → Rounds l.book y l.k l.initial.distance l.initial.next → Midway l.book y l.k l.d l.distance l.next
