-- `column_at` meets its contract: a small product.
use Prim.Native.Nat.{◌+◌, ◌≤◌}
use mathlib.Core.Path.{sym}
use native.Mathlib.Omega.{arith}
use native.Mathlib.Nat.{mul-le-mul}
use Rattle.chart.specs.Layout.{places}
use Rattle.chart.proofs.ByEndsLaws.{column_closed}
use Rattle.chart.proofs.by_ends.column_at.Goals as goal

pub overflow_mul-result : goal.overflow_mul-result
overflow_mul-result c =
    let h : c.args.j ≤ places = omega arith in
    let k : c.args.j + 1 ≤ places + 1 = omega arith in
    omega (arith, mul-le-mul h k)

pub returns : goal.returns
returns c = sym (column_closed c.args.j)
