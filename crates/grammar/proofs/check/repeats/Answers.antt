-- `repeats` meets its contract: no earlier production passed is equal.
use Prim.Native.Nat.{ℕ}
use mathlib.Core.Path.{◌≡◌, sym, ◌∙◌, subst}
use mathlib.Core.Bool.{false}
use native.Mathlib.Omega.{arith}
use Rattle.common.proofs.BelowLaws.{any_none, any_more, any_here}
use Rattle.common.specs.Below.{any_below}
use Rattle.grammar.specs.Check.{same_production}
use Rattle.layout.proofs.FramedLaws.{production_in, bodies_in}
use Rattle.layout.proofs.LayoutLaws.{production_first, production_next}
use Rattle.grammar.proofs.check.repeats.Goals as goal

pub bodies_at-other-requires : goal.bodies_at-other-requires
bodies_at-other-requires c = c.requires.framed.header

pub loop-q-init : goal.loop-q-init
loop-q-init c =
    let a = c.args in
    (c.bodies_at-other.ensures ∙ sym (production_first a.book.now), any_none (same_production a.book.now a.p))

pub same_production-requires : goal.same_production-requires
same_production-requires c = let given = c.requires in
    record { framed = c.requires.framed; canonical = c.requires.canonical; p_bound = c.requires.p_bound; at_value = c.requires.at_value; q_bound = omega arith; other_value = c.loop-q.invariant.0 }

pub returns-then-same_production : goal.returns-then-same_production
returns-then-same_production c =
    let a = c.args in
    sym (any_here (same_production a.book.now a.p) c.loop-q.q _ (omega arith) (sym c.same_production.ensures ∙ c.if-same_production.true))

pub argument_count-requires : goal.argument_count-requires
argument_count-requires c = record { book_in_bounds = bodies_in c.args.book.now c.requires.framed; p_bound = omega (arith, c.requires.p_bound) }

pub overflow_add-other : goal.overflow_add-other
overflow_add-other c = omega (arith, c.argument_count.ensures, production_in c.args.book.now c.requires.framed c.loop-q.q (omega (arith, c.requires.p_bound)))

pub overflow_add-other-in-loop-q : goal.overflow_add-other-in-loop-q
overflow_add-other-in-loop-q c = omega (arith, c.argument_count.ensures, production_in c.args.book.now c.requires.framed c.loop-q.q (omega (arith, c.requires.p_bound)))

pub loop-q-preserved : goal.loop-q-preserved
loop-q-preserved c =
    let a = c.args in
    let b = a.book.now in
    let at = c.loop-q in
    (omega (arith, c.argument_count.ensures, production_next b at.q), any_more (same_production b a.p) at.q at.invariant.1 (sym c.same_production.ensures ∙ c.if-same_production.false))

pub returns : goal.returns
returns c =
    let a = c.args in
    let e : c.loop-q.q ≡ a.p = omega arith in
    sym (subst (λ (k : ℕ). any_below k (same_production a.book.now a.p) ≡ false) e c.loop-q.invariant.1)
