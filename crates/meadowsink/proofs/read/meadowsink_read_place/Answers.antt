-- `meadowsink_read_place` meets its contract: the place is that of the answer.
use mathlib.Core.Path.{◌∙◌, ap}
use Rattle.reply.specs.Reply.{place_of}
use Rattle.meadowsink.proofs.read.meadowsink_read_place.Goals as goal

pub returns : goal.returns
returns c = record { answer = c.parse_used.result; outcome = c.parse_used.ensures; is_number = c.place.ensures ∙ ap place_of c.read_reply.ensures }
