-- `place_at` meets its contract: no part of the sum is more than the whole, which is small.
use Prim.Native.Nat.{ℕ, ◌*◌}
use mathlib.Core.Path.{ap}
use native.Mathlib.Omega.{arith}
use Rattle.chart.proofs.ByEndsLaws.{place_few}
use Rattle.chart.specs.ByEnds.{place_at}
use Rattle.chart.proofs.by_ends.place_at.Goals as goal

pub overflow_mul-result : goal.overflow_mul-result
unfolding place_at
overflow_mul-result c = omega (arith, ap (λ (s : ℕ). c.args.row * s) c.span_count.ensures, place_few c.args.n c.args.row c.args.i c.args.j c.requires.0 c.requires.1 c.requires.2 c.requires.3)

pub overflow_add-result : goal.overflow_add-result
unfolding place_at
overflow_add-result c = omega (arith, ap (λ (s : ℕ). c.args.row * s) c.span_count.ensures, place_few c.args.n c.args.row c.args.i c.args.j c.requires.0 c.requires.1 c.requires.2 c.requires.3)

pub overflow_add-result-2 : goal.overflow_add-result-2
unfolding place_at
overflow_add-result-2 c = omega (arith, ap (λ (s : ℕ). c.args.row * s) c.span_count.ensures, place_few c.args.n c.args.row c.args.i c.args.j c.requires.0 c.requires.1 c.requires.2 c.requires.3)

pub returns : goal.returns
unfolding place_at
returns c = omega (arith, ap (λ (s : ℕ). c.args.row * s) c.span_count.ensures)
