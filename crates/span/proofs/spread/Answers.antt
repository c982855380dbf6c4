-- `spread` meets its contract: the rows below r have risen, the rest is as it was; beyond `rows` nothing rises.
use Prim.Native.Nat.{ℕ, ◌+◌, ◌*◌}
use mathlib.Core.Path.{ap}
use mathlib.Core.Logic.{by_cases}
use native.Mathlib.Omega.{arith}
use native.Mathlib.Decide.{dec_lt}
use native.Mathlib.Nat.{le_refl}
use lib.ListN.{get_or}
use Rattle.common.proofs.FillLaws.{filled_more}
use Rattle.span.proofs.spread.Invariants.{Risen}
use Rattle.span.proofs.spread.Goals as goal

pub loop-r-preserved : goal.loop-r-preserved
unfolding Risen
loop-r-preserved c = filled_more (Risen c.args.args.now c.args.users.now c.args.by) 0 c.args.args.now c.loop-r.r c.loop-r.args _ (omega arith) c.loop-r.invariant (ap (λ (v : ℕ). v + c.args.by * get_or c.args.users.now c.loop-r.r 0) (c.loop-r.invariant.rest c.loop-r.r (le_refl _)))

pub returns : goal.returns
unfolding Risen
returns c r l =
    by_cases (dec_lt r c.args.rows)
    (λ h. c.loop-r.invariant.done r (omega arith))
    (λ h. omega (arith, c.loop-r.invariant.rest r (omega arith), ap (λ (n : ℕ). c.args.by * n) (c.requires.rows_le_row_limit.1 r (omega arith) l)))
