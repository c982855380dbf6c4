-- `meadowsink_conflict_place` meets its contract: the place is that of the question's answer.
use mathlib.Core.Path.{◌∙◌, ap}
use Rattle.reply.specs.Answers.{conflict_reply}
use Rattle.reply.specs.Reply.{refused, place_of}
use Rattle.meadowsink.proofs.conflict.meadowsink_conflict_place.Goals as goal

pub returns : goal.returns
returns c = c.place.ensures ∙ ap place_of (c.conflict_reply.ensures ∙ ap (conflict_reply refused) c.conflict.ensures)
