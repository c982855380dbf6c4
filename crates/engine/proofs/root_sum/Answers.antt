-- `root_sum` meets its contract: the productions below p are summed up.
use Prim.Native.Nat.{ℕ}
use mathlib.Core.Path.{◌≡◌, sym, ◌∙◌, ap}
use native.Mathlib.Omega.{arith}
use lib.ListN.{length}
use Rattle.common.proofs.BelowLaws.{sum_none, sum_more}
use Rattle.common.specs.Below.{sum_below}
use Rattle.engine.specs.Roots.{root_term}
use Rattle.tables.proofs.LayoutLaws.{counts_few}
use Rattle.tables.specs.Layout.{counts_of}
use Rattle.engine.proofs.root_sum.Goals as goal

pub production_count-p-end-requires : goal.production_count-p-end-requires
production_count-p-end-requires c = c.requires.tables

pub loop-p-init : goal.loop-p-init
loop-p-init c =
    let start = c in
    (sym (sum_none (root_term start.args.tables.now start.args.text.now start.args.chart.now)), omega arith)

pub root_at-sum-requires : goal.root_at-sum-requires
root_at-sum-requires c = record { chart_fits = c.requires; p_in_bounds = omega (arith, c.production_count-p-end.ensures) }

pub overflow_add-sum : goal.overflow_add-sum
overflow_add-sum c =
    let start = c in
    omega (arith, c.root_at-sum.ensures.upper_bound, c.production_count-p-end.ensures, counts_few start.args.tables.now start.requires.tables)

pub loop-p-preserved : goal.loop-p-preserved
loop-p-preserved c =
    let start = c in
    (omega (arith, c.root_at-sum.ensures.value, sum_more c.loop-p.p (root_term start.args.tables.now start.args.text.now start.args.chart.now)), omega (arith, c.root_at-sum.ensures.upper_bound))

pub returns : goal.returns
returns c =
    let start = c in
    let e : c.loop-p.p ≡ length (counts_of start.args.tables.now) = omega (arith, c.production_count-p-end.ensures) in c.loop-p.invariant.0 ∙ ap (λ (n : ℕ). sum_below n (root_term start.args.tables.now start.args.text.now start.args.chart.now)) e
