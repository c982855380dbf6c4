-- `with_result` meets its contract: a class byte has no production, a sort those of its set.
use Prim.Native.Nat.{ℕ, ◌*◌, ◌+◌, ◌/◌, ◌%◌}
use mathlib.Core.Path.{refl, sym, ◌∙◌, ap}
use native.Mathlib.Omega.{arith}
use lib.ListN.{get_or}
use borrow.Author.Tests.{lt-ltb, le-ltb}
use Rattle.flatten.specs.Tables.{result_has}
use Rattle.charset.specs.Set.{bit, word_bits}
use Rattle.layout.specs.Limits.{sort_limit}
use Rattle.tables.specs.Layout.{production_words}
use Rattle.flatten.proofs.with_result.Goals as goal

pub returns-then-wide-ge-SORT_LIMIT : goal.returns-then-wide-ge-SORT_LIMIT
unfolding result_has
returns-then-wide-ge-SORT_LIMIT c = λ q l. c.empty.ensures q l ∙ sym (rw (le-ltb c.args.x sort_limit (omega (arith, c.wide.ensures, c.if-wide-ge-SORT_LIMIT.true))) refl)

pub returns : goal.returns
unfolding result_has
returns c =
    let start = c in
    λ q l. c.read.ensures q l ∙ ap (λ (x : ℕ). bit (get_or start.args.sets (x * production_words + q / word_bits) 0) (q % word_bits)) c.wide-2.ensures ∙ sym (rw (lt-ltb start.args.x sort_limit (omega (arith, c.wide.ensures, c.if-wide-ge-SORT_LIMIT.false))) refl)
