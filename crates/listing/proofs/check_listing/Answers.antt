-- `check_listing` meets its contract: the grammar's refusals first.
use mathlib.Core.Path.{sym, ◌∙◌}
use Rattle.priority.proofs.CheckLaws.{accepted_formed}
use Rattle.listing.proofs.check_listing.Goals as goal

pub check_accepted-requires : goal.check_accepted-requires
check_accepted-requires c = accepted_formed c.args.book.now (sym c.check_grammar.ensures ∙ c.in_ok-check_grammar.was)
