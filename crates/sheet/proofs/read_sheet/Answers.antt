-- `read_sheet` meets its contract: refused, or all lines are read.
use mathlib.Core.Path.{sym, ◌∙◌}
use Rattle.priority.proofs.CheckLaws.{accepted_formed}
use Rattle.sheet.proofs.OutcomeLaws.{sheet_refused, sheet_read}
use Rattle.sheet.proofs.RefusalLaws.{step_checked, sheet_room}
use Rattle.sheet.proofs.read_sheet.Goals as goal
use Rattle.std.proofs.lemmas.Result.{err_from_is_err_and}

pub read_accepted-requires : goal.read_accepted-requires
read_accepted-requires c = let a = c.args in
    let room = sheet_room a.book.now a.sheet.now a.summary.now (sym c.check_summary.ensures ∙ c.in_ok-check_summary.was) in
    record { well_formed = accepted_formed a.book.now (step_checked a.book.now a.sheet.now room.0); sheet_in_bounds = room.1 }

pub returns-in_err-check_summary : goal.returns-in_err-check_summary
returns-in_err-check_summary c =
    let a = c.args in
    let p = err_from_is_err_and c.from_residual.result c.from_residual.ensures.1 in
    rw (p.1, p.2) (sheet_refused a.book.now a.sheet.now a.chart.now a.summary.now _ (sym c.check_summary.ensures ∙ c.in_err-check_summary.was))

pub returns : goal.returns
returns c =
    let a = c.args in
    let read = c.read_accepted in
    sheet_read a.book.now a.sheet.now a.chart.now a.summary.now c.count_lines.result read.new.chart read.new.summary (sym c.check_summary.ensures ∙ c.in_ok-check_summary.was) c.count_lines.ensures read.ensures
