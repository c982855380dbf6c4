-- `meadowsink_check` meets its contract: the number is that of the check's verdict.
use mathlib.Core.Path.{◌∙◌, ap}
use Rattle.meadowsink.proofs.FitLaws.{check_fits}
use Rattle.reply.specs.Answers.{check_reply}
use Rattle.reply.specs.Reply.{refused, number_of}
use Rattle.meadowsink.proofs.check.meadowsink_check.Goals as goal

pub number-requires : goal.number-requires
number-requires c = rw (c.check_reply.ensures, c.check_grammar.ensures) (check_fits _)

pub returns : goal.returns
returns c = c.number.ensures ∙ ap number_of (c.check_reply.ensures ∙ ap (check_reply refused) c.check_grammar.ensures)
