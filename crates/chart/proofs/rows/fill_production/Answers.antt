-- `fill_production` meets its contract: the arguments below d are written.
use Prim.Native.Nat.{ℕ}
use mathlib.Core.Path.{◌≡◌}
use native.Mathlib.Omega.{arith}
use Rattle.common.proofs.RegionLaws.{region_more}
use Rattle.chart.proofs.rows.fill_production.Goals as goal

pub loop-d-preserved : goal.loop-d-preserved
loop-d-preserved g c v h = region_more (λ (d x : ℕ). x ≡ v d) 0 c.args.base c.args.out.now c.loop-d.d c.loop-d.out c.value.result (omega arith) (c.loop-d.invariant v h) (h c.loop-d.d c.value.result c.loop-d-test.true c.value.ensures)
