-- `leads_on` meets its contract: an entry passed is true exactly if one was found.
use Prim.Native.Nat.{ℕ}
use mathlib.Core.Bool.{Bool, false, ◌||◌}
use mathlib.Core.Logic.{by_cases}
use mathlib.Core.Path.{◌≡◌, sym, ◌∙◌, ap, subst}
use native.Mathlib.Decide.{dec_lt}
use native.Mathlib.Omega.{arith}
use lib.ListN.{length, get_or-eq_default}
use borrow.Author.Rules.{rules}
use Rattle.common.proofs.BelowLaws.{any_none, any_next, any_never}
use Rattle.common.specs.Below.{any_below}
use Rattle.layout.specs.Limits.{production_limit}
use Rattle.priority.proofs.leads_on.Invariants.{at}
use Rattle.priority.proofs.leads_on.Goals as goal

pub loop-y-init : goal.loop-y-init
loop-y-init c = (omega arith, sym (any_none (at c.args.row)))

pub loop-y-preserved : goal.loop-y-preserved
unfolding at
loop-y-preserved c =
    let l = c.loop-y in
    let f = at c.args.row in
    (omega arith, ap (λ (b : Bool). b || f l.y) l.invariant.1 ∙ sym (any_next f l.y))

pub returns : goal.returns
unfolding at
returns c = let row = c.args.row in
    let n : length row ≡ production_limit = search rules in
    let e : c.loop-y.y ≡ production_limit = omega arith in
    let any = subst (λ (y : ℕ). c.loop-y.found ≡ any_below y (at row)) e c.loop-y.invariant.1 in record {
      value = any;
      false_value = λ none y. by_cases (dec_lt y production_limit)
          (λ l. any_never (at row) production_limit (sym any ∙ none) y l)
          (λ l. get_or-eq_default row false (omega arith));
    }
