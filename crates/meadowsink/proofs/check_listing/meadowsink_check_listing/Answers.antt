-- `meadowsink_check_listing` meets its contract: the number is that of the check's answer.
use mathlib.Core.Path.{◌∙◌, ap}
use Rattle.meadowsink.proofs.FitLaws.{listing_fits}
use Rattle.reply.specs.Answers.{listing_reply}
use Rattle.reply.specs.Reply.{refused, number_of}
use Rattle.meadowsink.proofs.check_listing.meadowsink_check_listing.Goals as goal

pub number-requires : goal.number-requires
number-requires c = rw (c.listing_reply.ensures, c.check_listing.ensures) (listing_fits _ _ _)

pub returns : goal.returns
returns c = c.number.ensures ∙ ap number_of (c.listing_reply.ensures ∙ ap (listing_reply refused) c.check_listing.ensures)
