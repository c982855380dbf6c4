-- `first_child` meets its contract: no production before q fits.
use mathlib.Core.Path.{sym, ◌∙◌}
use native.Mathlib.Omega.{arith}
use borrow.Author.Count.{below_more}
use Rattle.extract.proofs.ArgumentLaws.{child_found, child_lost}
use Rattle.extract.specs.Places.{cell_of}
use Rattle.tables.specs.Layout.{counts_of, arity_in, slot, takes_production}
use Rattle.extract.proofs.first_child.Goals as goal

pub production_count-count-requires : goal.production_count-count-requires
production_count-count-requires c = c.requires.walkable.fits.tables

pub loop-q-init : goal.loop-q-init
loop-q-init c = λ k l v. absurd (omega arith)

pub child_fits-requires : goal.child_fits-requires
child_fits-requires c = let start = c in
    record { walkable = start.requires.walkable; p_in_bounds = (start.requires.p_in_bounds.0, start.requires.p_in_bounds.1, omega (arith, c.production_count-count.ensures), start.requires.p_in_bounds.2, start.requires.p_in_bounds.3) }

pub returns-then-child_fits : goal.returns-then-child_fits
returns-then-child_fits c =
    let start = c in
    let turn = c.loop-q in
    record { within = omega arith; stands = λ l. child_found (takes_production start.args.tables.now (slot start.args.p start.args.d) turn.q) (cell_of start.args.tables.now start.args.text.now start.args.chart.now turn.q (arity_in (counts_of start.args.tables.now) turn.q) start.args.m start.args.j) (sym c.child_fits.ensures ∙ c.if-child_fits.true); skipped = λ k l e v. turn.invariant k l (e, v) }

pub loop-q-preserved : goal.loop-q-preserved
loop-q-preserved c =
    let start = c in
    let turn = c.loop-q in
    below_more _ _ turn.invariant (λ v. child_lost (takes_production start.args.tables.now (slot start.args.p start.args.d) turn.q) (cell_of start.args.tables.now start.args.text.now start.args.chart.now turn.q (arity_in (counts_of start.args.tables.now) turn.q) start.args.m start.args.j) (sym c.child_fits.ensures ∙ c.if-child_fits.false) v)

pub returns : goal.returns
returns c = record { within = omega arith; stands = λ l. absurd (omega arith); skipped = λ k l e v. c.loop-q.invariant k (omega arith) (e, v) }
