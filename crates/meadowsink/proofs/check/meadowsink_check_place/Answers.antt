-- `meadowsink_check_place` meets its contract: the place is that of the check's verdict.
use mathlib.Core.Path.{◌∙◌, ap}
use Rattle.reply.specs.Answers.{check_reply}
use Rattle.reply.specs.Reply.{refused, place_of}
use Rattle.meadowsink.proofs.check.meadowsink_check_place.Goals as goal

pub returns : goal.returns
returns c = c.place.ensures ∙ ap place_of (c.check_reply.ensures ∙ ap (check_reply refused) c.check_grammar.ensures)
