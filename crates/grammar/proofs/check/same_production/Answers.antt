-- `same_production` meets its contract: result, argument count, then the arguments.
use mathlib.Core.Path.{refl}
use native.Mathlib.Omega.{arith}
use borrow.Author.Tests.{eq-eqb, ne_eqb}
use Rattle.grammar.specs.Check.{same_production}
use Rattle.layout.proofs.FramedLaws.{production_in, bodies_in}
use Rattle.layout.specs.Layout.{result_sort, argument}
use Rattle.grammar.proofs.check.same_production.Goals as goal

pub byte_at-requires : goal.byte_at-requires
byte_at-requires c = let s = c in omega (arith, production_in s.args.book.now s.requires.framed s.args.p s.requires.p_bound)

pub byte_at-requires-2 : goal.byte_at-requires-2
byte_at-requires-2 c = let s = c in omega (arith, production_in s.args.book.now s.requires.framed s.args.q s.requires.q_bound)

pub returns-then-byte_at : goal.returns-then-byte_at
unfolding same_production result_sort
returns-then-byte_at c = rw (← c.requires.at_value, ← c.requires.other_value, ← c.byte_at.ensures, ← c.byte_at-2.ensures, ne_eqb _ _ c.if-byte_at.true) refl

pub argument_count-count-requires : goal.argument_count-count-requires
argument_count-count-requires c = record { book_in_bounds = bodies_in c.args.book.now c.requires.framed; p_bound = c.requires.p_bound }

pub argument_count-requires : goal.argument_count-requires
argument_count-requires c = record { book_in_bounds = bodies_in c.args.book.now c.requires.framed; p_bound = c.requires.q_bound }

pub returns-then-count-argument_count : goal.returns-then-count-argument_count
unfolding same_production result_sort
returns-then-count-argument_count c = rw (← c.requires.at_value, ← c.requires.other_value, ← c.byte_at.ensures, ← c.byte_at-2.ensures, eq-eqb _ _ c.if-byte_at.false, ← c.argument_count-count.ensures, ← c.argument_count.ensures, ne_eqb _ _ c.if-count-argument_count.true) refl

pub overflow_add-at : goal.overflow_add-at
overflow_add-at c = let s = c in omega (arith, production_in s.args.book.now s.requires.framed s.args.p s.requires.p_bound)

pub overflow_add-other : goal.overflow_add-other
overflow_add-other c = let s = c in omega (arith, production_in s.args.book.now s.requires.framed s.args.q s.requires.q_bound)

pub same_arguments-requires : goal.same_arguments-requires
same_arguments-requires c = let s = c in
    let b = s.args.book.now in record { canonical = s.requires.canonical; count_in_bounds = omega (arith, c.argument_count-count.ensures, production_in b s.requires.framed s.args.p s.requires.p_bound); count_in_bounds_2 = omega (arith, c.if-count-argument_count.false, c.argument_count.ensures, production_in b s.requires.framed s.args.q s.requires.q_bound) }

pub returns : goal.returns
unfolding same_production result_sort argument
returns c = rw (← c.requires.at_value, ← c.requires.other_value, ← c.byte_at.ensures, ← c.byte_at-2.ensures, eq-eqb _ _ c.if-byte_at.false, ← c.argument_count-count.ensures, ← c.argument_count.ensures, eq-eqb _ _ c.if-count-argument_count.false) c.same_arguments.ensures
