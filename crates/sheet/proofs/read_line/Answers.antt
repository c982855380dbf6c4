-- `read_line` meets its contract: the byte is that of the answer.
use Prim.Native.Nat.{ℕ}
use mathlib.Core.Path.{sym, subst}
use Rattle.sheet.proofs.LineLaws.{tables_line}
use Rattle.sheet.specs.Outcome.{TablesLine}
use Rattle.sheet.proofs.read_line.Goals as goal

pub returns : goal.returns
returns c =
    let a = c.args in
    let parsed = c.parse_prepared-answer in
    subst (λ (v : ℕ). TablesLine a.tables.now a.line.now a.chart.now v parsed.new.chart) (sym c.summary_byte.ensures)
    (tables_line a.tables.now a.line.now a.chart.now _ parsed.result parsed.new.chart _ parsed.ensures)
