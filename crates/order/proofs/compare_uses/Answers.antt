-- `compare_uses` meets its contract: the productions that either uses more often are marked, and if there are any, they are weighed.
use mathlib.Core.Bool.{false, ◌||◌}
use mathlib.Core.Path.{◌≡◌, sym, ◌∙◌, ap₂}
use Rattle.common.proofs.BoolLaws.{or_first_false, or_second_false}
use Rattle.order.proofs.RowLaws.{none_equal, weighs_says}
use Rattle.order.specs.Order.{OrderIs, counted}
use Rattle.order.proofs.compare_uses.Goals as goal

pub returns-then-not-leads_on : goal.returns-then-not-leads_on
unfolding OrderIs
returns-then-not-leads_on c =
    let rows = c in
    let a = rows.args in
    let count = rows.production_count-count in
    let more = rows.used_more-more in
    let less = rows.used_more-less in
    let first = c.leads_on in
    let second = c.leads_on-2 in
    let none : (first.result || second.result) ≡ false = c.if-not-leads_on.true in
    none_equal a.book.now count.result count.ensures (counted a.first) (counted a.second) more.result less.result more.ensures less.ensures
    (first.ensures.false_value (or_first_false first.result second.result none))
    (second.ensures.false_value (or_second_false first.result second.result none))

pub returns : goal.returns
returns c =
    let test = c in
    let rows = test in
    let start = rows in
    let a = start.args in
    let count = rows.production_count-count in
    let more = rows.used_more-more in
    let less = rows.used_more-less in
    let higher = c.priorities in
    let some = sym (ap₂ ◌||◌ test.leads_on.ensures.value test.leads_on-2.ensures.value) ∙ test.if-not-leads_on.false in
    weighs_says a.book.now start.requires count.result count.ensures (counted a.first) (counted a.second) more.result less.result more.ensures less.ensures
    higher.result higher.ensures some _ c.weigh.ensures
