-- `ask` meets its contract: the table says whether p is higher than q, and is the one that was passed.
use mathlib.Core.Path.{◌∙◌}
use Rattle.priority.proofs.PriorityLaws.{table_higher}
use Rattle.question.proofs.ask.Goals as goal

pub is_conflict-requires : goal.is_conflict-requires
is_conflict-requires c = let s = c in
    let a = s.args in
    record { well_formed = s.requires.well_formed; above_value = c.entry_at.ensures ∙ table_higher a.book.now s.requires.well_formed a.higher s.requires.by_index a.p a.q; there = s.requires.there }

pub returns : goal.returns
returns c = record { conflict_value = c.give_back.ensures.0 ∙ c.is_conflict.ensures; higher_value = c.give_back.ensures.1 }
