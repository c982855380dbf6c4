-- `fill_rows` meets its contract: the rows of the productions below p are written.
use Prim.Native.Nat.{ℕ, ◌+◌, ◌≤◌, ◌<◌}
use mathlib.Core.Path.{◌≡◌, refl, subst₂}
use mathlib.Core.List.{List}
use native.Mathlib.Omega.{arith}
use native.Mathlib.Nat.{le_refl}
use lib.ListN.{length}
use Rattle.chart.proofs.LayoutLaws.{row_below, row_of_base, row_base}
use Rattle.chart.proofs.RowsLaws.{rows_none, rows_more}
use Rattle.chart.specs.Layout.{row_limit, row_of}
use Rattle.common.specs.Below.{sum_below}
use Rattle.common.specs.Region.{Region}
use Rattle.layout.specs.Limits.{production_limit, argument_limit}
use Rattle.tables.specs.Layout.{arity_in}
use Rattle.chart.proofs.rows.fill_rows.Goals as goal

-- the rows of a production are within the limit
room : (counts : List ℕ) (p base : ℕ) → length counts ≤ production_limit → ((k : ℕ) → arity_in counts k ≤ argument_limit) → p < length counts → base ≡ row_of (arity_in counts) p 0 → base + arity_in counts p < row_limit
room counts p base few small l e = omega (arith, row_below counts p (arity_in counts p) few small l (le_refl _), row_of_base (arity_in counts) p (arity_in counts p))

pub loop-p-init : goal.loop-p-init
unfolding row_of sum_below
loop-p-init g c = (λ v h. rows_none v c.args.counts.now c.args.out.now c.requires.all_zero, refl)

pub fill_production-requires-clause-room : goal.fill_production-requires-clause-room
fill_production-requires-clause-room g c =
    let r = room c.args.counts.now c.loop-p.p c.loop-p.base c.requires.few.0 c.requires.few.1 c.loop-p-test.true c.loop-p.invariant.1 in
    (omega (arith, c.requires.all_zero.long), omega (arith, r))

pub overflow_add-base-in-loop-p : goal.overflow_add-base-in-loop-p
overflow_add-base-in-loop-p g c = omega (arith, room c.args.counts.now c.loop-p.p c.loop-p.base c.requires.few.0 c.requires.few.1 c.loop-p-test.true c.loop-p.invariant.1)

pub loop-p-preserved : goal.loop-p-preserved
loop-p-preserved g c =
    let counts = c.args.counts.now in
    let turn = c.loop-p in (
      λ v h. rows_more v counts turn.p turn.out c.fill_production.new.out (turn.invariant.0 v h)
          (subst₂ (λ (b n : ℕ). Region (λ (d x : ℕ). x ≡ v turn.p d) 0 b n turn.out c.fill_production.new.out) turn.invariant.1 c.wide.ensures
          (c.fill_production.ensures (v turn.p) (λ d r l e. h turn.p d r c.loop-p-test.true (omega arith) e))),
      omega (arith, row_base (arity_in counts) turn.p),
    )
