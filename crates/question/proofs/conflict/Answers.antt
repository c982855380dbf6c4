-- `conflict` meets its contract: the grammar's refusals first.
use mathlib.Core.Path.{sym, ◌∙◌}
use Rattle.priority.proofs.CheckLaws.{accepted_formed}
use Rattle.question.proofs.conflict.Goals as goal

pub answer-requires : goal.answer-requires
answer-requires c = accepted_formed c.args.book.now (sym c.check_grammar.ensures ∙ c.in_ok-check_grammar.was)
