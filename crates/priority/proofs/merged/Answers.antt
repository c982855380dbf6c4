-- `merged` meets its contract: the places below y are merged, the rest is the row.
use Prim.Native.Nat.{ℕ, ◌≤◌}
use mathlib.Core.Path.{◌≡◌, refl, ◌∙◌, ap}
use mathlib.Core.Bool.{Bool, false, ◌||◌}
use mathlib.Core.List.{List}
use mathlib.Core.Logic.{by_cases}
use native.Mathlib.Omega.{arith}
use native.Mathlib.Decide.{dec_lt}
use lib.ListN.{length, get_or, get_or-eq_default}
use borrow.Author.Rules.{rules}
use Rattle.common.proofs.FillLaws.{filled_none, filled_more}
use Rattle.layout.specs.Limits.{production_limit}
use Rattle.priority.proofs.merged.Invariants.{Joined}
use Rattle.priority.proofs.merged.Goals as goal

beyond_all : (row other : List Bool) (y : ℕ) → length row ≡ production_limit → length other ≡ production_limit → production_limit ≤ y
    → get_or row y false ≡ (get_or row y false || get_or other y false)
beyond_all row other y e f h =
    rw (get_or-eq_default row false {n = y} (omega arith), get_or-eq_default other false {n = y} (omega arith)) refl

pub loop-y-init : goal.loop-y-init
loop-y-init c = filled_none (Joined c.args.row c.args.other) false c.args.row

pub loop-y-preserved : goal.loop-y-preserved
unfolding Joined
loop-y-preserved c =
    let row = c.args.row in
    let n : length row ≡ production_limit = search rules in
    filled_more (Joined row c.args.other) false row c.loop-y.y c.loop-y.out _ (omega arith) c.loop-y.invariant (ap (λ (v : Bool). v || get_or c.args.other c.loop-y.y false) (c.loop-y.invariant.rest c.loop-y.y (omega arith)))

pub returns : goal.returns
unfolding Joined
returns c y =
    let n : length c.args.row ≡ production_limit = search rules in
    let m : length c.args.other ≡ production_limit = search rules in
    by_cases (dec_lt y production_limit)
    (λ l. c.loop-y.invariant.done y (omega arith))
    (λ l. c.loop-y.invariant.rest y (omega arith) ∙ beyond_all c.args.row c.args.other y n m (omega arith))
