-- `clear_column` meets its contract: the rows below r are cleared.
use native.Mathlib.Omega.{arith}
use Rattle.column.proofs.SumsLaws.{cleared_more}
use Rattle.column.proofs.clear_column.Goals as goal

pub loop-r-preserved : goal.loop-r-preserved
loop-r-preserved c = cleared_more c.args.n c.args.j c.args.chart.now c.loop-r.r c.loop-r.chart c.clear_row.new.chart (omega arith) c.loop-r.invariant c.clear_row.ensures
