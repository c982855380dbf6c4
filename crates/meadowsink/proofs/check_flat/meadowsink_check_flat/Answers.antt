-- `meadowsink_check_flat` meets its contract: the number is that of the answer.
use mathlib.Core.Path.{◌∙◌, ap}
use Rattle.meadowsink.proofs.FlatLaws.{check_flat_fits}
use Rattle.reply.specs.Reply.{number_of}
use Rattle.meadowsink.proofs.check_flat.meadowsink_check_flat.Goals as goal

pub number-requires : goal.number-requires
number-requires c = rw c.count_reply.ensures (check_flat_fits _ _ c.check_flat.ensures)

pub returns : goal.returns
returns c = record { answer = c.check_flat.result; outcome = c.check_flat.ensures; is_number = c.number.ensures ∙ ap number_of c.count_reply.ensures }
