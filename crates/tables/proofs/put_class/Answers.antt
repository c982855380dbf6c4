-- `put_class` meets its contract: the words of the characters, and then those of the productions.
use mathlib.Core.Path.{◌≡◌}
use lib.ListN.{length}
use borrow.Author.Rules.{rules}
use Rattle.charset.specs.Set.{set_words}
use Rattle.tables.proofs.PutLaws.{class_put}
use Rattle.tables.specs.Layout.{production_words}
use Rattle.tables.proofs.put_class.Goals as goal

pub returns : goal.returns
returns c =
    let start = c in
    let slot_at = c.slot_at-at in
    let put-words = c.put_words in
    let put-words2 = c.put_words-2 in
    let four : length start.args.chars.words ≡ set_words = search rules in
    let words : length start.args.productions.words ≡ production_words = search rules in
    class_put start.args.s slot_at.result slot_at.ensures.place start.args.chars.words start.args.productions.words start.args.tables.now put-words.new.out put-words2.new.out four words put-words.ensures put-words2.ensures
