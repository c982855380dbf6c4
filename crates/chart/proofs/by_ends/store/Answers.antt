-- `store` meets its contract: the cell stands in the chart.
use Prim.Native.Nat.{ℕ}
use mathlib.Core.Path.{ap}
use native.Mathlib.Omega.{arith}
use lib.ListN.{set}
use Rattle.chart.proofs.ByEndsLaws.{place_in}
use Rattle.chart.proofs.by_ends.store.Goals as goal

pub bounds-chart-place_at : goal.bounds-chart-place_at
bounds-chart-place_at c = omega (arith, (place_in c.args.n c.args.row c.args.i c.args.j c.requires.n_le_text_limit.2 c.requires.n_le_text_limit.3).1)

pub returns : goal.returns
returns c = ap (λ (at : ℕ). set c.args.chart.now at c.args.value) c.place_at.ensures
