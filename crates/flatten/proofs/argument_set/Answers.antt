-- `argument_set` meets its contract: a sort lets no character stand.
use Prim.Native.Nat.{◌+◌}
use mathlib.Core.Path.{refl, sym, ◌∙◌}
use borrow.Author.Tests.{lt-ltb, le-leb, lt-leb}
use Rattle.classes.specs.Classes.{is_class}
use Rattle.layout.specs.Layout.{classes}
use Rattle.layout.specs.Limits.{class_base}
use Rattle.flatten.proofs.argument_set.Goals as goal

pub returns-then-x-lt-CLASS_BASE : goal.returns-then-x-lt-CLASS_BASE
unfolding is_class
returns-then-x-lt-CLASS_BASE c x l = c.empty.ensures x l ∙ sym (rw (lt-leb class_base c.args.x c.if-x-lt-CLASS_BASE.true) refl)

pub returns : goal.returns
unfolding is_class
returns c x l = c.class_set.ensures x l ∙ sym (rw (le-leb class_base c.args.x c.if-x-lt-CLASS_BASE.false, lt-ltb c.args.x (class_base + classes c.args.book.now) c.requires.x_bound) refl)
