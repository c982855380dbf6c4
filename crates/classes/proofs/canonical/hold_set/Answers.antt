-- `hold_set` meets its contract: the words written are those of the set.
use mathlib.Core.Path.{◌≡◌}
use lib.ListN.{length}
use Rattle.charset.specs.Set.{set_words}
use Rattle.classes.proofs.CanonicalLaws.{held_more}
use borrow.Author.Rules.{rules}
use Rattle.classes.proofs.canonical.hold_set.Goals as goal

pub returns : goal.returns
returns c =
    let s = c in
    let a = s.args in
    let own = c.ranges_set in
    let four : length own.result.words ≡ set_words = search rules in
    held_more a.book.now own.result.words a.sets.now c.put_words.new.out a.k four own.ensures s.requires.sets_held c.put_words.ensures
