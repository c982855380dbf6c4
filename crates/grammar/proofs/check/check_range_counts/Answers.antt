-- `check_range_counts` meets its contract: no count passed is refused.
use mathlib.Core.Path.{refl, sym}
use native.Mathlib.Omega.{arith}
use borrow.Author.Tests.{lt-ltb, le-ltb}
use Rattle.refusal.proofs.VerdictLaws.{first_none, first_more, first_found, first_done}
use Rattle.grammar.specs.Check.{bad_range_count}
use Rattle.grammar.proofs.check.check_range_counts.Goals as goal

pub loop-k-init : goal.loop-k-init
loop-k-init c = first_none (bad_range_count c.args.book.now)

pub range_count-requires : goal.range_count-requires
range_count-requires c = record { book_in_bounds = c.requires; k_bound = omega (arith, c.class_count-k-end.ensures) }

pub returns-then-range_count-gt-RANGE_LIMIT : goal.returns-then-range_count-gt-RANGE_LIMIT
unfolding bad_range_count
returns-then-range_count-gt-RANGE_LIMIT c =
    let b = c.args.book.now in
    let k = c.loop-k.k in
    rw (c.at.ensures, c.production_count.ensures)
    (sym (first_found (bad_range_count b) k _ (omega (arith, c.class_count-k-end.ensures)) c.loop-k.invariant (rw (← c.range_count.ensures, lt-ltb _ _ c.if-range_count-gt-RANGE_LIMIT.true) refl)))

pub loop-k-preserved : goal.loop-k-preserved
unfolding bad_range_count
loop-k-preserved c = first_more (bad_range_count c.args.book.now) c.loop-k.k c.loop-k.invariant (rw (← c.range_count.ensures, le-ltb _ _ c.if-range_count-gt-RANGE_LIMIT.false) refl)

pub returns : goal.returns
returns c = first_done (bad_range_count c.args.book.now) _ _ c.loop-k.invariant (omega (arith, c.class_count-k-end.ensures))
