-- `turn_start` meets its contract: the cells that end before j are written.
use native.Mathlib.Omega.{arith}
use Rattle.chart.proofs.LayoutLaws.{span_few}
use Rattle.chart.proofs.ByEndsLaws.{column_in}
use Rattle.chart.proofs.TurnLaws.{ends_more}
use Rattle.chart.proofs.by_ends.turn_start.Goals as goal

pub overflow_add-column_at : goal.overflow_add-column_at
overflow_add-column_at c = omega (arith, c.column_at.ensures, column_in c.args.n c.args.i c.loop-j.j (omega arith) (omega arith), span_few c.args.n c.requires.n_le_text_limit.0)

pub bounds-cells-column_at : goal.bounds-cells-column_at
bounds-cells-column_at c = omega (arith, c.column_at.ensures, column_in c.args.n c.args.i c.loop-j.j (omega arith) (omega arith))

pub loop-j-preserved : goal.loop-j-preserved
loop-j-preserved c =
    let a = c.args in
    ends_more a.n a.row a.i a.cells.now a.chart.now c.loop-j.j c.column_at.result c.loop-j.chart c.put.new.chart (omega arith) (omega arith) (omega arith) c.column_at.ensures c.put.ensures c.loop-j.invariant
