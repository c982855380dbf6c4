-- `check_sheet` meets its contract: the grammar first, then the length of the sheet.
use mathlib.Core.Path.{sym, ◌∙◌}
use Rattle.sheet.proofs.RefusalLaws.{step_grammar, step_long, step_allowed}
use Rattle.sheet.proofs.check_sheet.Goals as goal
use Rattle.std.proofs.lemmas.Result.{err_from_is_err_and}

pub returns-then-sheet-gt-SHEET_LIMIT : goal.returns-then-sheet-gt-SHEET_LIMIT
returns-then-sheet-gt-SHEET_LIMIT c = rw c.at.ensures (sym (step_long c.args.book.now c.args.sheet.now (sym c.check_grammar.ensures ∙ c.in_ok-check_grammar.was) c.if-sheet-gt-SHEET_LIMIT.true))

pub returns-in_err-check_grammar : goal.returns-in_err-check_grammar
returns-in_err-check_grammar c =
    let p = err_from_is_err_and c.from_residual.result c.from_residual.ensures.1 in
    rw (p.1, p.2) (sym (step_grammar c.args.book.now c.args.sheet.now (sym c.check_grammar.ensures ∙ c.in_err-check_grammar.was)))

pub returns : goal.returns
returns c = sym (step_allowed c.args.book.now c.args.sheet.now (sym c.check_grammar.ensures ∙ c.in_ok-check_grammar.was) c.if-sheet-gt-SHEET_LIMIT.false)
