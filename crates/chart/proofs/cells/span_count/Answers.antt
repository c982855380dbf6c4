-- `span_count` meets its contract: a small product.
use Prim.Native.Nat.{◌+◌, ◌≤◌}
use mathlib.Core.Path.{refl}
use native.Mathlib.Omega.{arith}
use native.Mathlib.Nat.{mul-le-mul}
use Rattle.chart.specs.Layout.{places, span_count}
use Rattle.chart.proofs.cells.span_count.Goals as goal

pub overflow_mul-result : goal.overflow_mul-result
overflow_mul-result c =
    let h : c.args.n + 1 ≤ places = omega arith in
    let k : c.args.n + 2 ≤ places + 1 = omega arith in
    omega (arith, mul-le-mul h k)

pub returns : goal.returns
unfolding span_count
returns c = refl
