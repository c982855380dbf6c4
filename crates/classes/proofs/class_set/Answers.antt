-- `class_set` meets its contract: the ranges stand where they should.
use Rattle.layout.proofs.FramedLaws.{bodies_in}
use Rattle.classes.proofs.class_set.Goals as goal

pub class_at-requires-clause-book_in_bounds : goal.class_at-requires-clause-book_in_bounds
class_at-requires-clause-book_in_bounds c = bodies_in c.args.book.now c.requires.framed
