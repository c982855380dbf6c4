-- One parse comes only with room for its listing.
use Rattle.std.proofs.Common.{arith}
use Rattle.parse.proofs.AnswerLaws.{one_fits}
use Rattle.reading.proofs.print_answer.Goals as goal

pub print_listing-requires : goal.print_listing-requires
print_listing-requires g c =
    omega (arith, one_fits _ _ _ _ _ _ _ c.parse.ensures c.in-One.count c.in-One.is, c.parse.auto.listing)
