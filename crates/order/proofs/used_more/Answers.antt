-- `used_more` meets its contract: the places below p are marked as the counts there say, the rest is as it was.
use mathlib.Core.Bool.{false, false≢true}
use mathlib.Core.Logic.{by_cases}
use mathlib.Core.Path.{sym, ◌∙◌}
use native.Mathlib.Decide.{dec_lt}
use native.Mathlib.Omega.{arith}
use lib.ListN.{replicate, length-replicate}
use borrow.Author.Tests.{ltb-true, lt-ltb}
use Rattle.common.proofs.FillLaws.{filled_more}
use Rattle.common.proofs.ListLaws.{get_d_all}
use Rattle.layout.specs.Limits.{production_limit}
use Rattle.order.proofs.used_more.Invariants.{Marked}
use Rattle.order.proofs.used_more.Goals as goal

pub loop-p-preserved : goal.loop-p-preserved
unfolding Marked
loop-p-preserved c =
    let start = c in
    let p = c.loop-p.p in
    filled_more (Marked start.args.counts start.args.others start.args.count) false (replicate production_limit false) p c.loop-p.more _ (omega (arith, length-replicate production_limit false)) c.loop-p.invariant ((λ e. (omega arith, ltb-true _ _ e)), (λ (l, h). lt-ltb _ _ h))

pub returns : goal.returns
unfolding Marked
returns c p =
    let start = c in
    by_cases (dec_lt p start.args.count)
    (λ l. c.loop-p.invariant.done p (omega arith))
    (λ l. (
      (λ e. absurd (false≢true (sym (c.loop-p.invariant.rest p (omega arith) ∙ get_d_all production_limit false p) ∙ e))),
      (λ (k, h). absurd (omega arith)),
    ))
