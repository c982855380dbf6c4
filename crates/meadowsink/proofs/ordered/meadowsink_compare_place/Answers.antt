-- `meadowsink_compare_place` meets its contract: the place is that of the answer.
use mathlib.Core.Path.{◌∙◌, ap}
use Rattle.reply.specs.Reply.{place_of}
use Rattle.meadowsink.proofs.ordered.meadowsink_compare_place.Goals as goal

pub returns : goal.returns
returns c = record { answer = c.compare.result; compared = c.compare.ensures; is_number = c.place.ensures ∙ ap place_of c.compare_reply.ensures }
