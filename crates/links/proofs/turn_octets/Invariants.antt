-- `turn_octets` meets its contract: the rows of the bits below b are written.
use Rattle.links.specs.Linked.{BitsTurned}
use Rattle.links.proofs.turn_octets.Given as goal

abbrev pub invariant-loop-b : goal.invariant-loop-b
invariant-loop-b l = BitsTurned l.octets l.from l.b l.initial.out l.out
