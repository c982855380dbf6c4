-- `check_summary` meets its contract: what refuses a step first, then the length of the summary.
use mathlib.Core.Path.{sym, ◌∙◌}
use native.Mathlib.Omega.{arith}
use Rattle.sheet.proofs.RefusalLaws.{sheet_step, sheet_few, sheet_allowed}
use Rattle.sheet.proofs.check_summary.Goals as goal
use Rattle.std.proofs.lemmas.Result.{err_from_is_err_and}

pub returns-then-summary-needed : goal.returns-then-summary-needed
returns-then-summary-needed c =
    let a = c.args in
    let few = sheet_few a.book.now a.sheet.now a.summary.now (sym c.check_sheet.ensures ∙ c.in_ok-check_sheet.was) (omega (arith, c.count_lines-needed.ensures)) in
    rw (c.at.ensures, c.count_lines-needed.ensures) (sym few)

pub returns-in_err-check_sheet : goal.returns-in_err-check_sheet
returns-in_err-check_sheet c =
    let a = c.args in
    let p = err_from_is_err_and c.from_residual.result c.from_residual.ensures.1 in
    rw (p.1, p.2) (sym (sheet_step a.book.now a.sheet.now a.summary.now (sym c.check_sheet.ensures ∙ c.in_err-check_sheet.was)))

pub returns : goal.returns
returns c =
    let a = c.args in
    sym (sheet_allowed a.book.now a.sheet.now a.summary.now (sym c.check_sheet.ensures ∙ c.in_ok-check_sheet.was) (omega (arith, c.count_lines-needed.ensures)))
