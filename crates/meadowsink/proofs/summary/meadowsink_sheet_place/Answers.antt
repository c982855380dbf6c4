-- `meadowsink_sheet_place` meets its contract: the place is that of the answer, and the areas are as reading the lines leaves them.
use mathlib.Core.Path.{◌∙◌, ap}
use Rattle.reply.specs.Reply.{place_of}
use Rattle.meadowsink.proofs.summary.meadowsink_sheet_place.Goals as goal

pub returns : goal.returns
returns c =
    let read = c.read_sheet in
    record { answer = read.result; outcome = read.ensures; is_number = c.place.ensures ∙ ap place_of c.count_reply.ensures }
