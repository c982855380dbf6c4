-- `check_productions` meets its contract: no production passed is refused.
use mathlib.Core.Path.{sym, ◌∙◌}
use native.Mathlib.Omega.{arith}
use Rattle.std.proofs.lemmas.Result.{err_from_is_err_and}
use Rattle.refusal.proofs.VerdictLaws.{first_none, first_more, first_found, first_done}
use Rattle.grammar.specs.Check.{bad_production}
use Rattle.layout.proofs.FramedLaws.{production_in, bodies_in}
use Rattle.layout.proofs.LayoutLaws.{production_first, production_next}
use Rattle.grammar.proofs.check.check_productions.Goals as goal

pub production_count-p-end-requires : goal.production_count-p-end-requires
production_count-p-end-requires c = c.requires.header

pub bodies_at-at-requires : goal.bodies_at-at-requires
bodies_at-at-requires c = c.requires.header

pub loop-p-init : goal.loop-p-init
loop-p-init c = (c.bodies_at-at.ensures ∙ sym (production_first c.args.book.now), first_none (bad_production c.args.book.now))

pub check_production-requires : goal.check_production-requires
check_production-requires c = record { framed = c.requires; p_bound = omega (arith, c.production_count-p-end.ensures); at_value = c.loop-p.invariant.0 }

pub returns-in_err-check_production : goal.returns-in_err-check_production
returns-in_err-check_production c =
    let b = c.args.book.now in
    let told = c.in_err-check_production.was in
    let p = err_from_is_err_and c.from_residual.result c.from_residual.ensures.1 in
    rw (p.1, p.2) (sym (first_found (bad_production b) c.loop-p.p _ (omega (arith, c.production_count-p-end.ensures)) c.loop-p.invariant.1 (sym c.check_production.ensures ∙ told)))

pub argument_count-requires : goal.argument_count-requires
argument_count-requires c = record { book_in_bounds = bodies_in c.args.book.now c.requires; p_bound = omega (arith, c.production_count-p-end.ensures) }

pub overflow_add-at : goal.overflow_add-at
overflow_add-at c = omega (arith, c.argument_count.ensures, production_in c.args.book.now c.requires c.loop-p.p (omega (arith, c.production_count-p-end.ensures)))

pub overflow_add-at-in-loop-p : goal.overflow_add-at-in-loop-p
overflow_add-at-in-loop-p c = omega (arith, c.argument_count.ensures, production_in c.args.book.now c.requires c.loop-p.p (omega (arith, c.production_count-p-end.ensures)))

pub loop-p-preserved : goal.loop-p-preserved
loop-p-preserved c =
    let b = c.args.book.now in
    (omega (arith, c.argument_count.ensures, production_next b c.loop-p.p), first_more (bad_production b) c.loop-p.p c.loop-p.invariant.1 (sym c.check_production.ensures ∙ c.in_ok-check_production.was))

pub returns : goal.returns
returns c = first_done (bad_production c.args.book.now) _ _ c.loop-p.invariant.1 (omega (arith, c.production_count-p-end.ensures))
