-- `write_chain` meets its contract.
use Prim.Native.Nat.{◌-◌, ◌<◌}
use Rattle.shortest.specs.Search.{far, Rounds}
use Rattle.shortest.proofs.write_chain.Given as goal

abbrev pub invariant-loop-distance : goal.invariant-loop-distance
invariant-loop-distance l = Rounds l.book l.q l.k l.distance l.next × (l.k < far)

abbrev pub decreases-loop-distance : goal.decreases-loop-distance
decreases-loop-distance l = far - l.k
