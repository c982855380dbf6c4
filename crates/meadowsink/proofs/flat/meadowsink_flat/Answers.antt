-- `meadowsink_flat` meets its contract: the number is that of the answer, and the buffer is as writing leaves it.
use mathlib.Core.Path.{◌∙◌, ap}
use Rattle.meadowsink.proofs.FitLaws.{flat_fits}
use Rattle.reply.specs.Answers.{count_reply}
use Rattle.reply.specs.Reply.{refused, number_of}
use Rattle.meadowsink.proofs.flat.meadowsink_flat.Goals as goal

pub number-requires : goal.number-requires
number-requires c = rw (c.count_reply.ensures, c.write_flat.ensures.value) (flat_fits _ _)

pub returns : goal.returns
returns c = record { value = c.number.ensures ∙ ap number_of (c.count_reply.ensures ∙ ap (count_reply refused) c.write_flat.ensures.value); out_after = c.write_flat.ensures.out_after }
