-- `check_pair` meets its contract: the grammar, the text with the first listing, the second listing, and then whether both are right.
use mathlib.Core.Path.{refl, sym, ◌∙◌}
use Rattle.compare.proofs.AnswerLaws.{lines_parts}
use Rattle.priority.proofs.CheckLaws.{accepted_formed}
use Rattle.compare.proofs.check_pair.Goals as goal
use Rattle.std.proofs.lemmas.Result.{err_from_is_err_and}

pub returns-in_err-check_grammar : goal.returns-in_err-check_grammar
returns-in_err-check_grammar c =
    let p = err_from_is_err_and c.from_residual.result c.from_residual.ensures.1 in
    rw (p.1, p.2) (sym (lines_parts _ _ _ _ ∙ rw (sym c.check_grammar.ensures ∙ c.in_err-check_grammar.was) refl))

pub returns-in_err-check_input : goal.returns-in_err-check_input
returns-in_err-check_input c =
    let residual = c.from_residual-in_err-check_input in
    let p = err_from_is_err_and residual.result residual.ensures.1 in
    rw (p.1, p.2) (sym (lines_parts _ _ _ _ ∙ rw (sym c.check_grammar.ensures ∙ c.in_ok-check_grammar.was, sym c.check_input.ensures ∙ c.in_err-check_input.was) refl))

pub returns-in_err-check_bytes : goal.returns-in_err-check_bytes
returns-in_err-check_bytes c =
    let residual = c.from_residual-in_err-check_bytes in
    let p = err_from_is_err_and residual.result residual.ensures.1 in
    rw (p.1, p.2)
    (sym (lines_parts _ _ _ _ ∙ rw (sym c.check_grammar.ensures ∙ c.in_ok-check_grammar.was, sym c.check_input.ensures ∙ c.in_ok-check_input.was, sym c.check_bytes.ensures ∙ c.in_err-check_bytes.was) refl))

pub check_right-requires : goal.check_right-requires
check_right-requires c = accepted_formed c.args.book.now (sym c.check_grammar.ensures ∙ c.in_ok-check_grammar.was)

pub returns : goal.returns
returns c =
    c.check_right.ensures
    ∙ sym (lines_parts _ _ _ _ ∙ rw (sym c.check_grammar.ensures ∙ c.in_ok-check_grammar.was, sym c.check_input.ensures ∙ c.in_ok-check_input.was, sym c.check_bytes.ensures ∙ c.in_ok-check_bytes.was) refl)
