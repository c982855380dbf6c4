-- `fill_spans` meets its contract: the spans from start i on are filled.
use mathlib.Core.Path.{◌≡◌}
use lib.ListN.{length}
use Rattle.chart.specs.Layout.{row_limit}
use Rattle.fill.proofs.FurtherLaws.{SpansDone}
use Rattle.fill.proofs.fill_spans.Given as goal

abbrev pub invariant-loop-i : goal.invariant-loop-i
invariant-loop-i l = SpansDone l.tables l.prepared l.text l.initial.chart l.initial.sums l.initial.live l.j l.chart l.sums l.live l.i × (length l.inner ≡ row_limit)
