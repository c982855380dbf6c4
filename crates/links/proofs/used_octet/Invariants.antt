-- `used_octet` meets its contract: the arguments below d are joined.
use Rattle.links.specs.Linked.{Joined}
use Rattle.links.proofs.used_octet.Given as goal

abbrev pub invariant-loop-d : goal.invariant-loop-d
invariant-loop-d l = Joined l.tables l.p l.k l.d l.all
