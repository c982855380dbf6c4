-- `turn_row` meets its contract: the cells that start before i are written, from a copy of the row.
use native.Mathlib.Omega.{arith}
use Rattle.chart.proofs.TurnLaws.{row_copied, starts_more}
use Rattle.chart.proofs.by_ends.turn_row.Goals as goal

pub loop-i-preserved : goal.loop-i-preserved
loop-i-preserved c =
    let a = c.args in
    let copied = row_copied a.n a.row c.span_count.result c.span_count-2.result a.chart.now a.cells.now c.copy.new.out c.span_count.ensures c.span_count-2.ensures c.copy.ensures in
    starts_more a.n a.row a.chart.now c.loop-i.i c.copy.new.out c.loop-i.chart c.turn_start.new.chart (omega arith) copied c.loop-i.invariant c.turn_start.ensures
