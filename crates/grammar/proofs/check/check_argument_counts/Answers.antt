-- `check_argument_counts` meets its contract: no count passed is refused.
use mathlib.Core.Path.{refl, sym}
use native.Mathlib.Omega.{arith}
use borrow.Author.Tests.{lt-ltb, le-ltb}
use Rattle.refusal.proofs.VerdictLaws.{first_none, first_more, first_found, first_done}
use Rattle.grammar.specs.Check.{bad_argument_count}
use Rattle.grammar.proofs.check.check_argument_counts.Goals as goal

pub loop-p-init : goal.loop-p-init
loop-p-init c = first_none (bad_argument_count c.args.book.now)

pub argument_count-requires : goal.argument_count-requires
argument_count-requires c = record { book_in_bounds = c.requires; p_bound = omega (arith, c.production_count-p-end.ensures) }

pub returns-then-argument_count-gt-ARGUMENT_LIMIT : goal.returns-then-argument_count-gt-ARGUMENT_LIMIT
unfolding bad_argument_count
returns-then-argument_count-gt-ARGUMENT_LIMIT c =
    let b = c.args.book.now in
    let p = c.loop-p.p in
    rw c.at.ensures (sym (first_found (bad_argument_count b) p _ (omega (arith, c.production_count-p-end.ensures)) c.loop-p.invariant (rw (← c.argument_count.ensures, lt-ltb _ _ c.if-argument_count-gt-ARGUMENT_LIMIT.true) refl)))

pub loop-p-preserved : goal.loop-p-preserved
unfolding bad_argument_count
loop-p-preserved c =
    let b = c.args.book.now in
    let p = c.loop-p.p in
    first_more (bad_argument_count b) p c.loop-p.invariant (rw (← c.argument_count.ensures, le-ltb _ _ c.if-argument_count-gt-ARGUMENT_LIMIT.false) refl)

pub returns : goal.returns
returns c = first_done (bad_argument_count c.args.book.now) _ _ c.loop-p.invariant (omega (arith, c.production_count-p-end.ensures))
