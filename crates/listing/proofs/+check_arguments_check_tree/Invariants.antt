-- The numbers left of the listing fall, and behind the same number the arguments left.
use Prim.Native.Nat.{◌+◌, ◌-◌, ◌*◌}
use lib.ListN.{length}
use Rattle.layout.specs.Limits.{argument_limit}
use Rattle.numbers.specs.Numbers.{numbers_of}
use Rattle.listing.proofs.+check_arguments_check_tree.Given as goal

abbrev pub decreases-check_arguments : goal.decreases-check_arguments
decreases-check_arguments l = (argument_limit + 1) * (length (numbers_of l.listing.now) - l.at) + (argument_limit - l.d)

abbrev pub decreases-check_tree : goal.decreases-check_tree
decreases-check_tree l = (argument_limit + 1) * (length (numbers_of l.listing.now) - l.at)
