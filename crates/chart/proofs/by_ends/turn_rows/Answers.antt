-- `turn_rows` meets its contract: the rows below r are turned, and the rest is as it was.
use Prim.Native.Nat.{◌+◌}
use mathlib.Core.Path.{◌∙◌}
use native.Mathlib.Omega.{arith}
use native.Mathlib.Nat.{mul-le-mul_right}
use Rattle.chart.proofs.LayoutLaws.{span_few}
use Rattle.chart.specs.Layout.{span_count}
use Rattle.chart.proofs.TurnLaws.{turned_more}
use Rattle.chart.proofs.by_ends.turn_rows.Goals as goal

pub turn_row-requires : goal.turn_row-requires
turn_row-requires c = record { n_le_text_limit = (omega arith, omega arith); n_in_bounds = (omega (arith, c.loop-r.invariant.0.long, mul-le-mul_right {m = c.loop-r.r + 1} {n = c.args.rows} (span_count c.args.n) (omega arith)), omega (arith, c.loop-r.invariant.1, span_few c.args.n c.requires.n_le_text_limit.0)) }

pub loop-r-preserved : goal.loop-r-preserved
loop-r-preserved c = (turned_more c.args.n c.args.chart.now c.loop-r.r c.loop-r.chart c.turn_row.new.chart c.loop-r.invariant.0 c.turn_row.ensures.row_turned, c.turn_row.auto.cells ∙ c.loop-r.invariant.1)
