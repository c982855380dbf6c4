-- `meadowsink_compare` meets its contract: the number is that of the answer.
use mathlib.Core.Path.{◌∙◌, ap}
use Rattle.meadowsink.proofs.CompareLaws.{compare_fits}
use Rattle.reply.specs.Reply.{number_of}
use Rattle.meadowsink.proofs.ordered.meadowsink_compare.Goals as goal

pub number-requires : goal.number-requires
number-requires c = rw c.compare_reply.ensures (compare_fits _ _ _ _ _ c.compare.ensures)

pub returns : goal.returns
returns c = record { answer = c.compare.result; compared = c.compare.ensures; is_number = c.number.ensures ∙ ap number_of c.compare_reply.ensures }
