-- `meadowsink_page_place` meets its contract: the place is that of the answer, and the buffer is as writing leaves it.
use mathlib.Core.Path.{◌∙◌, ap}
use Rattle.reply.specs.Reply.{place_of}
use Rattle.meadowsink.proofs.write_page.meadowsink_page_place.Goals as goal

pub returns : goal.returns
returns c =
    let made = c.write_page in
    record { answer = made.result; outcome = made.ensures; is_number = c.place.ensures ∙ ap place_of c.count_reply.ensures }
