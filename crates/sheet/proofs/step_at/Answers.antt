-- `step_at` meets its contract: refused, or a step is taken.
use mathlib.Core.Path.{sym, ◌∙◌}
use Rattle.priority.proofs.CheckLaws.{accepted_formed}
use Rattle.sheet.proofs.OutcomeLaws.{step_refused, step_taken}
use Rattle.sheet.proofs.RefusalLaws.{step_checked}
use Rattle.sheet.proofs.step_at.Goals as goal

pub step_accepted-requires : goal.step_accepted-requires
step_accepted-requires c =
    let a = c.args in
    accepted_formed a.book.now (step_checked a.book.now a.sheet.now (sym c.check_sheet.ensures ∙ c.in-Ok.is))

pub returns-in-Err : goal.returns-in-Err
returns-in-Err c =
    let a = c.args in
    step_refused a.book.now a.sheet.now a.start a.chart.now _ (sym c.check_sheet.ensures ∙ c.in-Err.is)

pub returns-in-Ok : goal.returns-in-Ok
returns-in-Ok c =
    let a = c.args in
    let taken = c.step_accepted in
    step_taken a.book.now a.sheet.now a.start a.chart.now taken.result.step taken.result.next taken.new.chart (sym c.check_sheet.ensures ∙ c.in-Ok.is) taken.ensures
