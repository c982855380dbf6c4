-- `judge` meets its contract: the walk over the whole tree decides.
use mathlib.Core.List.{[]}
use mathlib.Core.Path.{sym, ◌∙◌}
use Rattle.ccg.specs.Tables.{table_grammar}
use Rattle.listing.specs.Parts.{judged_by}
use Rattle.listing.proofs.judge.Goals as goal

pub returns : goal.returns
unfolding judged_by
returns c = c.answer.ensures (table_grammar c.args.tables.now) ∙ sym (c.check_tree-whole.ensures.decides [])
