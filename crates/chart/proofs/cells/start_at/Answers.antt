-- `start_at` meets its contract: the closed form of a sum.
use Prim.Native.Nat.{◌+◌, ◌-◌, ◌*◌, ◌≤◌}
use mathlib.Core.Path.{sym}
use native.Mathlib.Omega.{arith}
use native.Mathlib.Nat.{mul-le-mul}
use Rattle.chart.proofs.LayoutLaws.{start_closed}
use Rattle.chart.specs.Layout.{text_limit}
use Rattle.chart.proofs.cells.start_at.Goals as goal

pub overflow_mul-result-2 : goal.overflow_mul-result-2
overflow_mul-result-2 c =
    let h : c.args.i ≤ text_limit = omega arith in
    let k : 2 * c.args.n + 3 - c.args.i ≤ 2 * text_limit + 3 = omega arith in
    omega (arith, mul-le-mul h k)

pub returns : goal.returns
returns c = sym (start_closed c.args.n c.args.i (omega arith))
