-- `meadowsink_sheet_step_place` meets its contract: the place is that of the step, and the chart is as the step leaves it.
use mathlib.Core.Path.{◌∙◌, ap}
use Rattle.meadowsink.proofs.SheetLaws.{step_near}
use Rattle.reply.specs.Reply.{place_of}
use Rattle.meadowsink.proofs.step.meadowsink_sheet_step_place.Goals as goal

pub step_reply-requires : goal.step_reply-requires
step_reply-requires c =
    let a = c.args in
    let walked = c.walk_once in
    step_near a.book.now a.sheet.now a.start a.chart.now walked.result.step walked.result.next walked.new.chart walked.ensures

pub returns : goal.returns
returns c =
    let walked = c.walk_once in
    record { step = walked.result.step; next = walked.result.next; outcome = walked.ensures; is_number = c.place.ensures ∙ ap place_of c.step_reply.ensures }
