-- `used_octets` meets its contract: the entries of the productions below p are written.
use Rattle.links.specs.Linked.{UsedOctets}
use Rattle.links.proofs.used_octets.Given as goal

abbrev pub invariant-loop-p : goal.invariant-loop-p
invariant-loop-p l = UsedOctets l.counts l.tables l.k l.p l.out
