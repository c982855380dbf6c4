-- `held_set` meets its contract: the words of the set.
use mathlib.Core.Path.{sym, ◌∙◌}
use Rattle.classes.proofs.CanonicalLaws.{held_word}
use Rattle.classes.proofs.canonical.held_set.Goals as goal

pub returns : goal.returns
returns c = λ x l. c.read.ensures x l ∙ sym (held_word c.args.sets.now c.args.k x)
