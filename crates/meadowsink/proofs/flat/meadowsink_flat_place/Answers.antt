-- `meadowsink_flat_place` meets its contract: the place is that of the answer, and the buffer is as writing leaves it.
use mathlib.Core.Path.{◌∙◌, ap}
use Rattle.reply.specs.Answers.{count_reply}
use Rattle.reply.specs.Reply.{refused, place_of}
use Rattle.meadowsink.proofs.flat.meadowsink_flat_place.Goals as goal

pub returns : goal.returns
returns c = record { value = c.place.ensures ∙ ap place_of (c.count_reply.ensures ∙ ap (count_reply refused) c.write_flat.ensures.value); out_after = c.write_flat.ensures.out_after }
