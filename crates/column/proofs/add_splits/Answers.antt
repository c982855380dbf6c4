-- `add_splits` meets its contract: the splits of the rows below r are added, and the sums of later rows are as they were.
use native.Mathlib.Omega.{arith}
use Rattle.column.proofs.SumsLaws.{splits_more}
use Rattle.column.proofs.add_splits.Goals as goal

pub loop-r-preserved : goal.loop-r-preserved
loop-r-preserved c =
    let a = c.args in
    splits_more a.n a.m a.chart.now a.args.now a.sums.now a.live.now c.loop-r.r c.loop-r.sums c.loop-r.live (omega arith) c.loop-r.invariant _ _ c.add_split.ensures
