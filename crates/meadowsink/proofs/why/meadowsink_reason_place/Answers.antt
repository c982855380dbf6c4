-- `meadowsink_reason_place` meets its contract: the place is that of the answer.
use mathlib.Core.Path.{◌∙◌, ap}
use native.Mathlib.Omega.{arith}
use Rattle.meadowsink.proofs.ReasonLaws.{reason_few}
use Rattle.reply.specs.Reply.{place_of}
use Rattle.meadowsink.proofs.why.meadowsink_reason_place.Goals as goal

pub reason_reply-requires : goal.reason_reply-requires
reason_reply-requires c = reason_few _ _ _ _ _ (omega (arith, c.type_inv.book 3)) _ _ c.reason.ensures

pub returns : goal.returns
returns c = record { answer = c.reason.result; outcome = c.reason.ensures; is_number = c.place.ensures ∙ ap place_of c.reason_reply.ensures }
