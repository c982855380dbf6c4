-- `add_row` meets its contract: the sums of the starts below k are new; those of later starts are read as they were at entry.
use Prim.Native.Nat.{ℕ, ◌+◌, max}
use mathlib.Core.Path.{◌≡◌, ◌∙◌, ap₂, subst}
use native.Mathlib.Omega.{arith}
use lib.ListN.{get_or}
use Rattle.chart.proofs.ByEndsLaws.{place_in, place_few, place_next, product_small, cell_small, sum_made}
use Rattle.common.proofs.RegionLaws.{front_more, region_more}
use Rattle.common.specs.Region.{Region}
use Rattle.chart.proofs.by_ends.add_row.Invariants.{Sum, Live}
use Rattle.chart.proofs.by_ends.add_row.Goals as goal

pub overflow_add-from : goal.overflow_add-from
overflow_add-from c =
    let a = c.args in
    omega (arith, c.place_at-from.ensures, place_next a.n a.row a.m c.loop-k.k, place_few a.n a.row c.loop-k.k a.m c.requires.n_le_text_limit.0 c.requires.n_le_text_limit.1 (omega arith) c.requires.n_le_text_limit.2)

pub bounds-chart-from : goal.bounds-chart-from
bounds-chart-from c =
    let a = c.args in
    omega (arith, c.place_at-from.ensures, place_next a.n a.row a.m c.loop-k.k, (place_in a.n a.row c.loop-k.k a.m (omega arith) c.requires.n_le_text_limit.2).1)

pub overflow_mul-chart : goal.overflow_mul-chart
overflow_mul-chart c =
    let a = c.args in
    let small = cell_small a.chart.now a.n a.row a.m c.place_at-from.result c.loop-k.k c.place_at-from.ensures (c.requires.by_index.1 c.loop-k.k (omega arith)) in
    omega (arith, product_small (get_or a.chart.now (c.place_at-from.result + c.loop-k.k) 0) a.argument small c.requires.n_le_text_limit.3)

pub overflow_add-sums : goal.overflow_add-sums
overflow_add-sums c =
    let a = c.args in
    let small = cell_small a.chart.now a.n a.row a.m c.place_at-from.result c.loop-k.k c.place_at-from.ensures (c.requires.by_index.1 c.loop-k.k (omega arith)) in
    omega (arith, product_small (get_or a.chart.now (c.place_at-from.result + c.loop-k.k) 0) a.argument small c.requires.n_le_text_limit.3, c.loop-k.invariant.0.above (a.at + c.loop-k.k) (omega arith), c.requires.by_index.0 c.loop-k.k (omega arith))

pub loop-k-preserved : goal.loop-k-preserved
unfolding Sum Live
loop-k-preserved c =
    let a = c.args in
    let same = c.loop-k.invariant.0.above (a.at + c.loop-k.k) (omega arith) in
    let made = sum_made a.chart.now a.n a.row a.m c.place_at-from.result c.loop-k.k c.place_at-from.ensures a.sums.now c.loop-k.sums a.argument a.at c.capped_byte-sum.result c.capped_byte-sum.ensures same in (
      region_more (Sum a.chart.now a.sums.now a.n a.row a.m a.argument a.at) 0 a.at a.sums.now c.loop-k.k c.loop-k.sums c.capped_byte-sum.result (omega arith) c.loop-k.invariant.0 made,
      front_more (Live a.chart.now a.sums.now a.live.now a.n a.row a.m a.argument a.at) c.loop-k.k a.live.now c.loop-k.live c.larger.result (omega arith) c.loop-k.invariant.1
          (c.larger.ensures ∙ ap₂ max (c.loop-k.invariant.1.above c.loop-k.k (omega arith)) made),
    )

pub returns : goal.returns
unfolding Sum Live
returns c = let a = c.args in
    let e : c.loop-k.k ≡ a.m = omega arith in record { region = subst (λ (k : ℕ). Region (Sum a.chart.now a.sums.now a.n a.row a.m a.argument a.at) 0 a.at k a.sums.now c.loop-k.sums) e c.loop-k.invariant.0; region_2 = subst (λ (k : ℕ). Region (Live a.chart.now a.sums.now a.live.now a.n a.row a.m a.argument a.at) 0 0 k a.live.now c.loop-k.live) e c.loop-k.invariant.1 }
