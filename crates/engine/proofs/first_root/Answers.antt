-- `first_root` meets its contract: the productions below p have none, so there is one from p on.
use native.Mathlib.Omega.{arith}
use Rattle.common.proofs.BelowLaws.{sum_none}
use Rattle.engine.proofs.RootLaws.{sum_still}
use Rattle.engine.specs.Roots.{root_term}
use Rattle.engine.proofs.first_root.Goals as goal

pub production_count-p-end-requires : goal.production_count-p-end-requires
production_count-p-end-requires c = c.requires.chart_fits.tables

pub loop-p-init : goal.loop-p-init
loop-p-init c = sum_none (root_term c.args.tables.now c.args.text.now c.args.chart.now)

pub root_at-requires : goal.root_at-requires
root_at-requires c = record { chart_fits = c.requires.chart_fits; p_in_bounds = omega (arith, c.production_count-p-end.ensures) }

pub returns-then-root_at-gt0 : goal.returns-then-root_at-gt0
returns-then-root_at-gt0 c = (omega (arith, c.production_count-p-end.ensures), omega (arith, c.root_at.ensures.value))

pub loop-p-preserved : goal.loop-p-preserved
loop-p-preserved c =
    let f = root_term c.args.tables.now c.args.text.now c.args.chart.now in
    sum_still f c.loop-p.p c.loop-p.invariant (omega (arith, c.root_at.ensures.value))
