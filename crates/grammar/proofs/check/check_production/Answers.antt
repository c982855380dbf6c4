-- `check_production` meets its contract: the result byte, then the arguments.
use mathlib.Core.Path.{refl}
use native.Mathlib.Omega.{arith}
use borrow.Author.Tests.{le-leb, lt-leb}
use Rattle.grammar.specs.Check.{bad_production}
use Rattle.layout.proofs.FramedLaws.{production_in}
use Rattle.layout.specs.Layout.{result_sort}
use Rattle.grammar.proofs.check.check_production.Goals as goal

pub byte_at-requires : goal.byte_at-requires
byte_at-requires c = omega (arith, production_in c.args.book.now c.requires.framed c.args.p c.requires.p_bound)

pub returns-then-sort_count-byte_at : goal.returns-then-sort_count-byte_at
unfolding bad_production result_sort
returns-then-sort_count-byte_at c = rw (c.at.ensures, ← c.requires.at_value, ← c.sort_count.ensures, ← c.byte_at.ensures, le-leb _ _ c.if-sort_count-byte_at.true) refl

pub returns : goal.returns
unfolding bad_production result_sort
returns c = rw (← c.requires.at_value, ← c.sort_count.ensures, ← c.byte_at.ensures, lt-leb _ _ c.if-sort_count-byte_at.false) c.check_arguments.ensures
