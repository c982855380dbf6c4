-- `read_lines` meets its contract: line by line the summary comes about.
use Prim.Native.Nat.{ℕ}
use mathlib.Core.Path.{refl, ◌∙◌, subst}
use mathlib.Core.List.{List}
use native.Mathlib.Omega.{arith}
use lib.ListN.{length-set}
use Rattle.split.proofs.LinesLaws.{next_behind, next_later, line_part}
use Rattle.sheet.proofs.SummedLaws.{far_first, far_room, far_more, far_last}
use Rattle.sheet.specs.Outcome.{TablesLine}
use Rattle.sheet.proofs.read_lines.Goals as goal

pub loop-start-init : goal.loop-start-init
loop-start-init c =
    let a = c.args in
    (far_first (TablesLine a.tables.now) a.sheet.now a.chart.now a.summary.now c.requires.sheet_in_bounds, refl, refl)

pub line_end-end-requires : goal.line_end-end-requires
line_end-end-requires c = c.loop-start.invariant.0.within

pub slice_bounds-read_line-count : goal.slice_bounds-read_line-count
slice_bounds-read_line-count c = c.line_end-end.ensures.1

pub bounds-summary-line : goal.bounds-summary-line
bounds-summary-line c =
    let a = c.args in
    let turn = c.loop-start in
    omega (arith, turn.invariant.2, far_room (TablesLine a.tables.now) a.sheet.now a.chart.now a.summary.now turn.chart turn.summary turn.line turn.start turn.invariant.0 (omega arith))

pub behind-start-requires : goal.behind-start-requires
behind-start-requires c = c.line_end-end.ensures.2

pub overflow_add-line : goal.overflow_add-line
overflow_add-line c =
    let a = c.args in
    let turn = c.loop-start in
    omega (arith, far_room (TablesLine a.tables.now) a.sheet.now a.chart.now a.summary.now turn.chart turn.summary turn.line turn.start turn.invariant.0 (omega arith))

pub loop-start-smaller : goal.loop-start-smaller
loop-start-smaller c =
    let s = c.args.sheet.now in
    let start = c.loop-start.start in
    omega (arith, next_behind s start c.line_end-end.result c.behind-start.result c.line_end-end.ensures.0 c.behind-start.ensures, next_later s start (omega arith))

pub loop-start-preserved : goal.loop-start-preserved
loop-start-preserved c =
    let a = c.args in
    let turn = c.loop-start in
    let line = c.line_end-end in
    let next = next_behind a.sheet.now turn.start line.result c.behind-start.result line.ensures.0 c.behind-start.ensures in
    let read = c.read_line in
    let part = line_part a.sheet.now turn.start line.result line.ensures.0 line.ensures.1 line.ensures.2 in
    let became = subst (λ (w : List ℕ). TablesLine a.tables.now w turn.chart read.result read.new.chart) part read.ensures in
    let more = far_more (TablesLine a.tables.now) a.sheet.now a.chart.now a.summary.now turn.chart turn.summary turn.line turn.start turn.invariant.0 (omega arith) c.behind-start.result next read.result read.new.chart became in
    (more, read.auto.chart ∙ turn.invariant.1, length-set turn.summary turn.line read.result ∙ turn.invariant.2)

pub shape_of-chart : goal.shape_of-chart
shape_of-chart c = c.loop-start.invariant.1

pub shape_of-summary : goal.shape_of-summary
shape_of-summary c = c.loop-start.invariant.2

pub returns : goal.returns
returns c =
    let a = c.args in
    let turn = c.loop-start in
    far_last (TablesLine a.tables.now) a.sheet.now a.chart.now a.summary.now turn.chart turn.summary turn.line turn.start turn.invariant.0 (omega arith)
