-- `fill_spans` meets its contract: the spans from start i on are filled.
use mathlib.Core.Path.{◌∙◌}
use native.Mathlib.Omega.{arith}
use Rattle.fill.proofs.FurtherLaws.{spans_more, spans_all}
use Rattle.fill.proofs.fill_spans.Goals as goal

pub loop-i-preserved : goal.loop-i-preserved
loop-i-preserved c =
    let turn = c.loop-i in
    let fill-span = c.fill_span in
    let more = spans_more c.args.j turn.chart turn.sums turn.live fill-span.new.chart fill-span.new.sums fill-span.new.live turn.i c.loop-i-test.true turn.invariant.0 fill-span.ensures.further fill-span.auto.chart fill-span.auto.sums fill-span.auto.live fill-span.ensures.small_2 in
    (more, fill-span.auto.inner ∙ turn.invariant.1)

pub returns : goal.returns
returns c = record { further = spans_all c.args.j c.loop-i.chart c.loop-i.sums c.loop-i.live c.loop-i.i (omega arith) c.loop-i.invariant.0; small_2 = c.loop-i.invariant.0.small }
