-- `fill_production` meets its contract: the arguments below d are written.
use Prim.Native.Nat.{ℕ, ◌<◌}
use mathlib.Core.Path.{◌≡◌}
use Rattle.common.specs.Region.{Region}
use Rattle.chart.proofs.rows.fill_production.Given as goal

abbrev pub invariant-loop-d : goal.invariant-loop-d
invariant-loop-d g l = (v : ℕ → ℕ) → ((d r : ℕ) → d < l.arity → goal.F-post g l.value l.p d r → r ≡ v d) → Region (λ (d x : ℕ). x ≡ v d) 0 l.base l.d l.initial.out l.out
