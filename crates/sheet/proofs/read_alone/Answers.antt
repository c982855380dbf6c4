-- `read_alone` meets its contract: the byte is that of the answer.
use Prim.Native.Nat.{ℕ}
use mathlib.Core.Path.{sym, subst}
use Rattle.sheet.proofs.LineLaws.{line_by}
use Rattle.sheet.specs.Outcome.{LineBy}
use Rattle.sheet.proofs.read_alone.Goals as goal

pub returns : goal.returns
returns c =
    let a = c.args in
    let parsed = c.parse_accepted-answer in
    subst (λ (v : ℕ). LineBy a.book.now a.line.now a.chart.now v parsed.new.chart) (sym c.summary_byte.ensures)
    (line_by a.book.now a.line.now a.chart.now _ parsed.result parsed.new.chart _ parsed.ensures)
