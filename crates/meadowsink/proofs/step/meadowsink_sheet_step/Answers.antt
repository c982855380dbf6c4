-- `meadowsink_sheet_step` meets its contract: the number is that of the step, and the chart is as the step leaves it.
use mathlib.Core.Path.{◌∙◌, ap}
use Rattle.meadowsink.proofs.SheetLaws.{step_near, step_call_fits}
use Rattle.reply.specs.Reply.{number_of}
use Rattle.meadowsink.proofs.step.meadowsink_sheet_step.Goals as goal

pub step_reply-requires : goal.step_reply-requires
step_reply-requires c =
    let a = c.args in
    let walked = c.walk_once in
    step_near a.book.now a.sheet.now a.start a.chart.now walked.result.step walked.result.next walked.new.chart walked.ensures

pub number-requires : goal.number-requires
number-requires c =
    let a = c.args in
    let walked = c.walk_once in
    rw c.step_reply.ensures (step_call_fits a.book.now a.sheet.now a.start a.chart.now walked.result.step walked.result.next walked.new.chart walked.ensures)

pub returns : goal.returns
returns c =
    let walked = c.walk_once in
    record { step = walked.result.step; next = walked.result.next; outcome = walked.ensures; is_number = c.number.ensures ∙ ap number_of c.step_reply.ensures }
