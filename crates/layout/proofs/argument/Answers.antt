-- `argument` meets its contract: the byte lies within the bytes.
use Prim.Native.Nat.{ℕ, ◌+◌}
use mathlib.Core.Path.{◌∙◌, ap}
use native.Mathlib.Omega.{arith}
use lib.ListN.{get_or}
use Rattle.layout.proofs.FramedLaws.{production_in, bodies_in}
use Rattle.layout.specs.Layout.{argument}
use Rattle.layout.proofs.argument.Goals as goal

pub production_at-requires-clause-book_in_bounds : goal.production_at-requires-clause-book_in_bounds
production_at-requires-clause-book_in_bounds c = bodies_in c.args.book.now c.requires.framed

pub overflow_add-production_at : goal.overflow_add-production_at
overflow_add-production_at c = omega (arith, c.production_at.ensures, production_in c.args.book.now c.requires.framed c.args.p (omega arith))

pub overflow_add-production_at-2 : goal.overflow_add-production_at-2
overflow_add-production_at-2 c = omega (arith, c.production_at.ensures, production_in c.args.book.now c.requires.framed c.args.p (omega arith))

pub byte_at-requires : goal.byte_at-requires
byte_at-requires c = omega (arith, c.production_at.ensures, production_in c.args.book.now c.requires.framed c.args.p (omega arith))

pub returns : goal.returns
unfolding argument
returns c = c.byte_at.ensures ∙ ap (λ (k : ℕ). get_or c.args.book.now (k + 1 + c.args.i) 0) c.production_at.ensures
