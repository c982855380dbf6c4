-- `link_users` meets its contract: the productions of the octets below k are linked.
use Prim.Native.Nat.{◌*◌, min}
use lib.ListN.{length}
use Rattle.links.specs.Linked.{UsersTo}
use Rattle.tables.specs.Layout.{octet_bits}
use Rattle.links.proofs.link_users.Given as goal

abbrev pub invariant-loop-k : goal.invariant-loop-k
invariant-loop-k l = UsersTo l.counts l.tables (min (l.k * octet_bits) (length l.counts)) l.users
