-- `step_accepted` meets its contract: no line is left, or the one that starts there is read.
use Prim.Native.Nat.{ℕ}
use mathlib.Core.Path.{subst}
use mathlib.Core.List.{List}
use Rattle.split.proofs.LinesLaws.{next_behind, line_part}
use Rattle.sheet.proofs.OutcomeLaws.{step_end, step_line}
use Rattle.sheet.specs.Outcome.{LineBy}
use Rattle.sheet.proofs.step_accepted.Goals as goal

pub returns-then-sheet-start : goal.returns-then-sheet-start
returns-then-sheet-start c =
    let a = c.args in
    step_end a.book.now a.sheet.now a.start a.chart.now c.if-sheet-start.true

pub returns : goal.returns
returns c =
    let a = c.args in
    let line = c.line_end-end in
    let read = c.read_alone-byte in
    let part = line_part a.sheet.now a.start line.result line.ensures.0 line.ensures.1 line.ensures.2 in
    let became = subst (λ (w : List ℕ). LineBy a.book.now w a.chart.now read.result read.new.chart) part read.ensures in
    step_line a.book.now a.sheet.now a.start a.chart.now read.result c.behind.result read.new.chart c.if-sheet-start.false became
    (next_behind a.sheet.now a.start line.result c.behind.result line.ensures.0 c.behind.ensures)
