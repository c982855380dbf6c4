-- `check_repeated` meets its contract: no production passed is equal to an earlier one.
use mathlib.Core.Path.{refl, sym, ◌∙◌}
use native.Mathlib.Omega.{arith}
use Rattle.refusal.proofs.VerdictLaws.{first_none, first_more, first_found, first_done}
use Rattle.grammar.specs.Check.{repeated_production}
use Rattle.layout.proofs.FramedLaws.{production_in, bodies_in}
use Rattle.layout.proofs.LayoutLaws.{production_first, production_next}
use Rattle.grammar.proofs.check.check_repeated.Goals as goal

pub canonical_arguments-table-requires : goal.canonical_arguments-table-requires
canonical_arguments-table-requires c = c.requires

pub production_count-p-end-requires : goal.production_count-p-end-requires
production_count-p-end-requires c = c.requires.header

pub bodies_at-at-requires : goal.bodies_at-at-requires
bodies_at-at-requires c = c.requires.header

pub loop-p-init : goal.loop-p-init
loop-p-init c = let b = c.args.book.now in (c.bodies_at-at.ensures ∙ sym (production_first b), first_none (repeated_production b))

pub slice_bounds-repeats-end : goal.slice_bounds-repeats-end
slice_bounds-repeats-end c = sym c.canonical_arguments-table.ensures.long

pub repeats-requires : goal.repeats-requires
repeats-requires c = record { framed = c.requires; canonical = c.canonical_arguments-table.ensures; p_bound = omega (arith, c.production_count-p-end.ensures); at_value = c.loop-p.invariant.0 }

pub returns-then-repeats : goal.returns-then-repeats
unfolding repeated_production
returns-then-repeats c =
    let b = c.args.book.now in
    let at = c.loop-p in
    rw (c.at.ensures, at.invariant.0)
    (sym (first_found (repeated_production b) at.p _ (omega (arith, c.production_count-p-end.ensures)) at.invariant.1 (rw (← c.repeats.ensures, c.if-repeats.true) refl)))

pub argument_count-requires : goal.argument_count-requires
argument_count-requires c = record { book_in_bounds = bodies_in c.args.book.now c.requires; p_bound = omega (arith, c.production_count-p-end.ensures) }

pub overflow_add-at : goal.overflow_add-at
overflow_add-at c = omega (arith, c.argument_count.ensures, production_in c.args.book.now c.requires c.loop-p.p (omega (arith, c.production_count-p-end.ensures)))

pub overflow_add-at-in-loop-p : goal.overflow_add-at-in-loop-p
overflow_add-at-in-loop-p c = omega (arith, c.argument_count.ensures, production_in c.args.book.now c.requires c.loop-p.p (omega (arith, c.production_count-p-end.ensures)))

pub loop-p-preserved : goal.loop-p-preserved
unfolding repeated_production
loop-p-preserved c =
    let b = c.args.book.now in
    let at = c.loop-p in
    (omega (arith, c.argument_count.ensures, production_next b at.p), first_more (repeated_production b) at.p at.invariant.1 (rw (← c.repeats.ensures, c.if-repeats.false) refl))

pub returns : goal.returns
returns c = first_done (repeated_production c.args.book.now) _ _ c.loop-p.invariant.1 (omega (arith, c.production_count-p-end.ensures))
