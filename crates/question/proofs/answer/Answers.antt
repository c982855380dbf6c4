-- `answer` meets its contract: what isn't there is 7 with place 0.
use mathlib.Core.Path.{refl, sym, ◌∙◌}
use Rattle.question.proofs.AnswerLaws.{test_there}
use Rattle.question.proofs.answer.Goals as goal

pub returns-then-not-is_there : goal.returns-then-not-is_there
returns-then-not-is_there c = rw (c.at.ensures, ← c.is_there.ensures, c.if-not-is_there.true) refl

pub ask-asked-requires : goal.ask-asked-requires
ask-asked-requires c = record { well_formed = c.requires; by_index = c.priorities.ensures; there = test_there _ _ _ _ (sym c.is_there.ensures ∙ c.if-not-is_there.false) }

pub returns : goal.returns
returns c = rw (← c.is_there.ensures, c.if-not-is_there.false, c.ask-asked.ensures.conflict_value) refl
