-- `meadowsink_check_flat_place` meets its contract: the place is that of the answer.
use mathlib.Core.Path.{◌∙◌, ap}
use Rattle.reply.specs.Reply.{place_of}
use Rattle.meadowsink.proofs.check_flat.meadowsink_check_flat_place.Goals as goal

pub returns : goal.returns
returns c = record { answer = c.check_flat.result; outcome = c.check_flat.ensures; is_number = c.place.ensures ∙ ap place_of c.count_reply.ensures }
