-- `meadowsink_read` meets its contract: the number is that of the answer.
use mathlib.Core.Path.{◌∙◌, ap}
use Rattle.meadowsink.proofs.ViewerLaws.{read_fits}
use Rattle.reply.specs.Reply.{number_of}
use Rattle.meadowsink.proofs.read.meadowsink_read.Goals as goal

pub number-requires : goal.number-requires
number-requires c = rw c.read_reply.ensures (read_fits _ _ _ _ _ _ _ c.parse_used.ensures)

pub returns : goal.returns
returns c = record { answer = c.parse_used.result; outcome = c.parse_used.ensures; is_number = c.number.ensures ∙ ap number_of c.read_reply.ensures }
