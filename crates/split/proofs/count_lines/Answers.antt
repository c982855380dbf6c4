-- `count_lines` meets its contract: a line from each start to the next.
use native.Mathlib.Omega.{arith}
use Rattle.split.proofs.LinesLaws.{next_behind, counting_more, counting_last}
use Rattle.split.proofs.count_lines.Goals as goal

pub loop-start-preserved : goal.loop-start-preserved
loop-start-preserved c =
    let s = c.args.sheet.now in
    let start = c.loop-start.start in
    counting_more s c.loop-start.count start c.loop-start.invariant (omega arith) c.behind-start.result
    (next_behind s start c.line_end.result c.behind-start.result c.line_end.ensures.0 c.behind-start.ensures)

pub returns : goal.returns
returns c = counting_last c.args.sheet.now c.loop-start.count c.loop-start.start c.loop-start.invariant (omega arith)
