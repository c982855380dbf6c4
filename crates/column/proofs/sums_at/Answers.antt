-- `sums_at` meets its contract: the sums of the rows below r are read.
use Prim.Native.Nat.{◌+◌, ◌*◌}
use mathlib.Core.Path.{refl}
use native.Mathlib.Omega.{arith}
use lib.ListN.{get_or}
use Rattle.chart.specs.Layout.{places}
use Rattle.common.proofs.FillLaws.{filled_more}
use Rattle.column.proofs.sums_at.Invariants.{Sum}
use Rattle.column.proofs.sums_at.Goals as goal

pub loop-r-preserved : goal.loop-r-preserved
unfolding Sum
loop-r-preserved c = filled_more (Sum c.args.sums.now c.args.i) 0 c.args.out.now c.loop-r.r c.loop-r.out (get_or c.args.sums.now (c.loop-r.r * places + c.args.i) 0) (omega arith) c.loop-r.invariant refl

pub returns : goal.returns
unfolding Sum
returns c = (λ r l. c.loop-r.invariant.done r (omega arith), λ r l. c.loop-r.invariant.rest r (omega arith))
