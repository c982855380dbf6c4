-- `add_bits` meets its contract: the bits passed are added.
use Prim.Native.Nat.{◌+◌, max, ◌≤◌}
use Rattle.load.specs.Held.{BitsAdded}
use Rattle.load.proofs.add_bits.Given as goal

abbrev pub invariant-loop-x : goal.invariant-loop-x
invariant-loop-x l = BitsAdded l.s l.first l.x l.initial.tables l.tables × (l.first ≤ l.x) × (l.x ≤ max l.first (l.last + 1))
