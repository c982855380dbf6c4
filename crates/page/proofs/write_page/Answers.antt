-- `write_page` meets its contract: what checking the listing refuses comes first.
use mathlib.Core.Path.{sym, ◌∙◌, ap}
use Rattle.std.proofs.lemmas.Result.{err_from_is_err_and}
use Rattle.std.specs.Prelude.{Ok}
use Rattle.listing.specs.declared.Judgement.{Judgement}
use Rattle.page.proofs.OutcomeLaws.{page_not_checked, page_wrong}
use Rattle.page.proofs.write_page.Goals as goal

pub returns-in_err-judgement : goal.returns-in_err-judgement
returns-in_err-judgement c =
    let a = c.args in
    let p = err_from_is_err_and c.from_residual.result c.from_residual.ensures.1 in
    rw (p.1, p.2) (page_not_checked a.book.now a.text.now a.listing.now a.page.now _ (sym c.check_listing.ensures ∙ c.in_err-judgement.was))

pub write_right-requires : goal.write_right-requires
write_right-requires c = sym c.check_listing.ensures ∙ c.in_ok-judgement.was ∙ ap (λ (j : Judgement). Ok j) c.in-Right.is

pub returns-in-Wrong : goal.returns-in-Wrong
returns-in-Wrong c =
    let a = c.args in
    rw c.at.ensures (page_wrong a.book.now a.text.now a.listing.now a.page.now _ (sym c.check_listing.ensures ∙ c.in_ok-judgement.was ∙ ap (λ (j : Judgement). Ok j) c.in-Wrong.is))
