-- `is_there` meets its contract: each count is read where it stands.
use Rattle.layout.proofs.FramedLaws.{bodies_in}
use Rattle.question.proofs.is_there.Goals as goal

pub argument_count-requires-clause-book_in_bounds : goal.argument_count-requires-clause-book_in_bounds
argument_count-requires-clause-book_in_bounds c = bodies_in c.args.book.now c.requires.framed
