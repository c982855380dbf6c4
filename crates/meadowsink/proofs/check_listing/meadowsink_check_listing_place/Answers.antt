-- `meadowsink_check_listing_place` meets its contract: the place is that of the check's answer.
use mathlib.Core.Path.{◌∙◌, ap}
use Rattle.reply.specs.Answers.{listing_reply}
use Rattle.reply.specs.Reply.{refused, place_of}
use Rattle.meadowsink.proofs.check_listing.meadowsink_check_listing_place.Goals as goal

pub returns : goal.returns
returns c = c.place.ensures ∙ ap place_of (c.listing_reply.ensures ∙ ap (listing_reply refused) c.check_listing.ensures)
