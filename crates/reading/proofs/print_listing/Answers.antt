-- The word, and a number more by each round.
use Rattle.std.proofs.Common.{codes}
use Rattle.reading.proofs.Lines.{numbers_none, numbers_more}
use Rattle.reading.proofs.print_listing.Goals as goal

pub loop-at-init : goal.loop-at-init
loop-at-init g c = numbers_none (g.W.Write.contents c.args.out.now) (g.W.Write.contents c.print_word.new.out) (codes "one") c.args.listing.now c.in_ok-print_word.ensures

pub loop-at-preserved : goal.loop-at-preserved
loop-at-preserved g c =
    numbers_more (g.W.Write.contents c.args.out.now) (g.W.Write.contents c.loop-at.out) (g.W.Write.contents c.print_number.new.out) (codes "one") c.args.listing.now c.loop-at.at c.loop-at.invariant c.in_ok-print_number.ensures
