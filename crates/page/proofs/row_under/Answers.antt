-- `row_under` meets its contract: a listing that is right has its rows.
use mathlib.Core.Path.{sym, ◌∙◌, ap, subst}
use Rattle.std.specs.Prelude.{Ok}
use Rattle.listing.specs.declared.Judgement.{Judgement}
use Rattle.page.proofs.OutcomeLaws.{row_not_checked, row_wrong}
use Rattle.page.specs.Answer.{RowUnder}
use Rattle.page.proofs.row_under.Goals as goal

pub row_of_right-requires : goal.row_of_right-requires
row_of_right-requires c = sym c.check_listing.ensures ∙ c.in-Ok.is ∙ ap (λ (j : Judgement). Ok j) c.in-Right.is

pub returns-in-Err : goal.returns-in-Err
returns-in-Err c =
    let a = c.args in
    subst (RowUnder a.book.now a.text.now a.listing.now a.index) (sym c.no_row.ensures) (row_not_checked a.book.now a.text.now a.listing.now a.index _ (sym c.check_listing.ensures ∙ c.in-Err.is))

pub returns-in-Wrong : goal.returns-in-Wrong
returns-in-Wrong c =
    let a = c.args in
    let e = sym c.check_listing.ensures ∙ c.in-Ok.is ∙ ap (λ (j : Judgement). Ok j) c.in-Wrong.is in
    subst (RowUnder a.book.now a.text.now a.listing.now a.index) (sym c.no_row-in-Wrong.ensures) (row_wrong a.book.now a.text.now a.listing.now a.index _ e)
