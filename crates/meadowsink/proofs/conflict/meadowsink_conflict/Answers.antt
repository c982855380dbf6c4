-- `meadowsink_conflict` meets its contract: the number is that of the question's answer.
use mathlib.Core.Path.{◌∙◌, ap}
use Rattle.meadowsink.proofs.FitLaws.{conflict_fits}
use Rattle.reply.specs.Answers.{conflict_reply}
use Rattle.reply.specs.Reply.{refused, number_of}
use Rattle.meadowsink.proofs.conflict.meadowsink_conflict.Goals as goal

pub number-requires : goal.number-requires
number-requires c = rw (c.conflict_reply.ensures, c.conflict.ensures) (conflict_fits _ _ _ _)

pub returns : goal.returns
returns c = c.number.ensures ∙ ap number_of (c.conflict_reply.ensures ∙ ap (conflict_reply refused) c.conflict.ensures)
