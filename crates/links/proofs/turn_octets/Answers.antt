-- `turn_octets` meets its contract: the rows of the bits below b are written.
use Rattle.links.proofs.LinkedLaws.{turned_more}
use Rattle.links.proofs.turn_octets.Goals as goal

pub loop-b-preserved : goal.loop-b-preserved
loop-b-preserved c =
    let start = c in
    let turn = c.loop-b in
    let put-bits = c.put_bits in
    turned_more start.args.octets.now start.args.from start.args.out.now turn.b turn.out put-bits.new.out turn.invariant put-bits.ensures
