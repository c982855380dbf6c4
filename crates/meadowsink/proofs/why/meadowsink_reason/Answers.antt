-- `meadowsink_reason` meets its contract: the number is that of the answer.
use mathlib.Core.Path.{◌∙◌, ap}
use native.Mathlib.Omega.{arith}
use Rattle.meadowsink.proofs.ReasonLaws.{reason_few, reason_fits}
use Rattle.reply.specs.Reply.{number_of}
use Rattle.meadowsink.proofs.why.meadowsink_reason.Goals as goal

pub reason_reply-requires : goal.reason_reply-requires
reason_reply-requires c = reason_few _ _ _ _ _ (omega (arith, c.type_inv.book 3)) _ _ c.reason.ensures

pub number-requires : goal.number-requires
number-requires c = rw c.reason_reply.ensures (reason_fits _ _ _ _ _ (omega (arith, c.type_inv.book 3)) _ _ c.reason.ensures)

pub returns : goal.returns
returns c = record { answer = c.reason.result; outcome = c.reason.ensures; is_number = c.number.ensures ∙ ap number_of c.reason_reply.ensures }
