-- `names_argument` meets its contract: a sort, or a class that is there.
use mathlib.Core.Path.{refl}
use borrow.Author.Tests.{le-ltb, le-leb, lt-leb}
use Rattle.classes.specs.Classes.{is_class}
use Rattle.grammar.specs.Check.{names_argument}
use Rattle.grammar.proofs.check.names_argument.Goals as goal

pub returns-then-x-ge-CLASS_BASE : goal.returns-then-x-ge-CLASS_BASE
unfolding names_argument is_class
returns-then-x-ge-CLASS_BASE c = rw (← c.sort_count.ensures, le-ltb _ _ c.if-x-sort_count.false, le-leb _ _ c.if-x-ge-CLASS_BASE.true, ← c.class_count.ensures) refl

pub returns-else-x-ge-CLASS_BASE : goal.returns-else-x-ge-CLASS_BASE
unfolding names_argument is_class
returns-else-x-ge-CLASS_BASE c = rw (← c.sort_count.ensures, le-ltb _ _ c.if-x-sort_count.false, lt-leb _ _ c.if-x-ge-CLASS_BASE.false) refl
