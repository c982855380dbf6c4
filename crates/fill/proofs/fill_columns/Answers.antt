-- `fill_columns` meets its contract: the columns before j are filled.
use native.Mathlib.Omega.{arith}
use Rattle.fill.proofs.FurtherLaws.{columns_more, columns_all}
use Rattle.fill.proofs.fill_columns.Goals as goal

pub loop-j-preserved : goal.loop-j-preserved
loop-j-preserved c =
    let turn = c.loop-j in
    let fill-column = c.fill_column in
    columns_more turn.chart turn.sums turn.live fill-column.new.chart fill-column.new.sums fill-column.new.live turn.j (omega arith) turn.invariant fill-column.ensures.onward fill-column.auto.chart fill-column.auto.sums fill-column.auto.live fill-column.ensures.small_cells_2

pub returns : goal.returns
returns c =
    let within = c.loop-j.invariant.within in
    let both = columns_all c.loop-j.chart c.loop-j.sums c.loop-j.live c.loop-j.j (omega arith) c.loop-j.invariant in
    record { onward = both.0; small_cells = both.1 }
