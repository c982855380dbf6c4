-- `compare` meets its contract: the refusals first, and then the order of what was counted.
use mathlib.Core.Path.{sym, ◌∙◌}
use native.Mathlib.Omega.{arith}
use Rattle.compare.proofs.AnswerLaws.{lines_checked, compared_refused, compared_ordered}
use Rattle.compare.specs.Uses.{uses}
use Rattle.order.proofs.OrderLaws.{says_equal}
use Rattle.order.specs.Order.{counted}
use Rattle.priority.proofs.CheckLaws.{accepted_formed}
use Rattle.compare.proofs.compare.Goals as goal
use Rattle.std.proofs.lemmas.Result.{err_from_is_err_and}

pub compare_uses-requires : goal.compare_uses-requires
compare_uses-requires c =
    let told = c in
    let a = told.args in
    accepted_formed a.book.now (lines_checked a.book.now a.text.now a.first.now a.second.now (sym told.check_pair.ensures ∙ told.in_ok-check_pair.was))

pub returns-in_err-check_pair : goal.returns-in_err-check_pair
returns-in_err-check_pair c =
    let a = c.args in
    let p = err_from_is_err_and c.from_residual.result c.from_residual.ensures.1 in
    rw (p.1, p.2) (compared_refused a.book.now a.text.now a.first.now a.second.now _ (sym c.check_pair.ensures ∙ c.in_err-check_pair.was))

pub returns : goal.returns
returns c =
    let told = c in
    let a = told.args in
    let b = a.book.now in
    let first = a.first.now in
    let second = a.second.now in
    let passed = sym told.check_pair.ensures ∙ told.in_ok-check_pair.was in
    let accepted = lines_checked b a.text.now first second passed in
    let few = (accepted_formed b accepted).framed.few_productions in
    compared_ordered b a.text.now first second _ passed
    (says_equal b accepted (counted c.count_uses.result) (uses first) (counted c.count_uses-2.result) (uses second)
    (λ p there. c.count_uses.ensures p (omega arith)) (λ p there. c.count_uses-2.ensures p (omega arith)) _ c.compare_uses.ensures)
