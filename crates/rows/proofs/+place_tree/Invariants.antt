-- `place_tree` meets its contract: the trees of the arguments are placed one behind the other. The numbers left fall.
use Prim.Native.Nat.{◌-◌}
use lib.ListN.{length}
use Rattle.numbers.specs.Numbers.{numbers_of}
use Rattle.rows.proofs.WalkLaws.{SoFar}
use Rattle.rows.proofs.+place_tree.Given as goal

abbrev pub invariant-loop : goal.invariant-loop
invariant-loop l = SoFar l.book (numbers_of l.listing) l.depth l.at l.place l.initial.table l.table l.counter l.next.number l.next.byte

abbrev pub decreases-place_tree : goal.decreases-place_tree
decreases-place_tree l = length (numbers_of l.listing.now) - l.at
