-- `chart_need` meets its contract: a cell for each row and span.
use Prim.Native.Nat.{◌*◌}
use mathlib.Core.Path.{◌≡◌, ap₂}
use native.Mathlib.Omega.{arith}
use Rattle.chart.proofs.LayoutLaws.{need_few}
use Rattle.chart.specs.Layout.{chart_need}
use Rattle.chart.proofs.cells.chart_need.Goals as goal

pub overflow_mul-result : goal.overflow_mul-result
overflow_mul-result c =
    let start = c in
    let e : c.row_count.result * c.span_count.result ≡ chart_need start.args.tables.now start.args.n = ap₂ ◌*◌ c.row_count.ensures c.span_count.ensures in
    omega (arith, need_few start.args.tables.now start.args.n start.requires.0 start.requires.1)

pub returns : goal.returns
returns c = ap₂ ◌*◌ c.row_count.ensures c.span_count.ensures
