-- `members` meets its contract: the places from `first` to y are marked, the rest is as it was.
use mathlib.Core.Bool.{false}
use mathlib.Core.Logic.{by_cases}
use mathlib.Core.Path.{sym, ◌∙◌}
use native.Mathlib.Decide.{dec_lt}
use native.Mathlib.Omega.{arith}
use lib.ListN.{replicate, length-replicate}
use Rattle.common.proofs.BelowLaws.{between_below, between_above, between_in}
use Rattle.common.proofs.FillLaws.{filled_from, filled_more}
use Rattle.common.proofs.ListLaws.{get_d_all}
use Rattle.layout.specs.Limits.{production_limit}
use Rattle.priority.proofs.members.Invariants.{Member}
use Rattle.priority.proofs.members.Goals as goal

pub loop-y-init : goal.loop-y-init
unfolding Member
loop-y-init c =
    filled_from (Member c.args.first c.args.second) false (replicate production_limit false) c.args.first
    (λ k l. get_d_all production_limit false k ∙ sym (between_below c.args.first c.args.second k l))

pub loop-y-preserved : goal.loop-y-preserved
unfolding Member
loop-y-preserved c =
    let start = c in
    filled_more (Member start.args.first start.args.second) false (replicate production_limit false) c.loop-y.y c.loop-y.row _ (omega (arith, length-replicate production_limit false)) c.loop-y.invariant
    (sym (between_in start.args.first start.args.second c.loop-y.y (omega arith) (omega arith)))

pub returns : goal.returns
unfolding Member
returns c y =
    let start = c in
    by_cases (dec_lt y c.loop-y.y)
    (λ l. c.loop-y.invariant.done y l)
    (λ l. c.loop-y.invariant.rest y (omega arith) ∙ get_d_all production_limit false y ∙ sym (between_above start.args.first start.args.second y (omega arith)))
