-- `write_flat` meets its contract: the grammar's refusals first.
use mathlib.Core.Path.{sym, ◌∙◌}
use Rattle.priority.proofs.CheckLaws.{accepted_formed}
use Rattle.flatten.proofs.write_flat.Goals as goal

pub write_accepted-requires : goal.write_accepted-requires
write_accepted-requires c = accepted_formed c.args.book.now (sym c.check_grammar.ensures ∙ c.in_ok-check_grammar.was)
