use Prim.Native.Nat.{◌+◌, ◌<◌, ℕ}
use native.Mathlib.Omega.{arith}
use Rattle.tables.proofs.LayoutLaws.{counts_few}
use Rattle.tables.specs.Layout.{slot, counts_of, arity_in}
use Rattle.listing.proofs.WalkLaws.{walked_none, walked_first_fault, walked_more, production_there, walked_missing, walked_no_character, walked_character, walked_no_production, walked_production}
use Rattle.numbers.specs.Numbers.{numbers_of}
use Rattle.listing.specs.Parts.{EndsBeyond}
use mathlib.Core.Path.{sym, ◌∙◌}
use lib.ListN.{get_or}
use Rattle.charset.specs.Set.{characters}
use Rattle.numbers.proofs.NumbersLaws.{numbers_length}
use Rattle.listing.proofs.+check_arguments_check_tree.Goals as goal
use Rattle.std.specs.Prelude.{Ok}
use Rattle.std.proofs.lemmas.Result.{err_from_is_err_and}

pub check_arguments-argument_count-requires : goal.check_arguments-argument_count-requires
check_arguments-argument_count-requires t c =
    let start = c in
    (start.requires.parser_tables, start.requires.q_in_bounds.0)

pub check_arguments-returns-then-argument_count-d : goal.check_arguments-returns-then-argument_count-d
check_arguments-returns-then-argument_count-d t c =
    let start = c in
    let a = start.args in
    walked_none a.tables.now (numbers_of a.listing.now) a.text.now a.q a.d a.at a.place (omega (arith, c.argument_count.ensures)) start.requires.q_in_bounds.1 start.requires.q_in_bounds.2

pub check_arguments-overflow_mul-q : goal.check_arguments-overflow_mul-q
check_arguments-overflow_mul-q t c =
    let start = c in
    let a = start.args in
    omega (arith, start.requires.q_in_bounds.0, counts_few a.tables.now start.requires.parser_tables)

pub check_arguments-overflow_add-q : goal.check_arguments-overflow_add-q
check_arguments-overflow_add-q t c =
    let start = c in
    let a = start.args in
    omega (arith, start.requires.q_in_bounds.0, c.argument_count.ensures, start.requires.parser_tables.few_arguments a.q, counts_few a.tables.now start.requires.parser_tables)

pub check_arguments-check_tree-requires : goal.check_arguments-check_tree-requires
check_arguments-check_tree-requires t c =
    let start = c in
    let a = start.args in
    let few = start.requires.parser_tables.few_arguments a.q in
    let left : a.d < arity_in (counts_of a.tables.now) a.q = omega (arith, c.argument_count.ensures) in
    (omega (arith, start.decreases), (start.requires.parser_tables, (omega (arith, start.requires.q_in_bounds.0, counts_few a.tables.now start.requires.parser_tables), start.requires.q_in_bounds.2)))

pub check_arguments-overflow_add-d : goal.check_arguments-overflow_add-d
check_arguments-overflow_add-d t c =
    let start = c in
    let a = start.args in
    omega (arith, c.argument_count.ensures, start.requires.parser_tables.few_arguments a.q)

pub check_arguments-check_arguments-requires : goal.check_arguments-check_arguments-requires
unfolding EndsBeyond
check_arguments-check_arguments-requires t c =
    let start = c in
    let a = start.args in
    let few = start.requires.parser_tables.few_arguments a.q in
    let ended : EndsBeyond (a.at + 1) (numbers_of a.listing.now) a.text.now (Ok c.in_ok-next.next) = rw c.in_ok-next.was at c.check_tree.ensures.ends in
    (omega (arith, start.decreases, c.argument_count.ensures, ended.0, ended.1), (start.requires.parser_tables, (start.requires.q_in_bounds.0, ended.1, ended.2)))

pub check_arguments-returns-in_err-next : goal.check_arguments-returns-in_err-next
unfolding slot
check_arguments-returns-in_err-next t c =
    let a = c.args in
    let p = err_from_is_err_and c.from_residual.result c.from_residual.ensures.1 in
    rw (p.1, p.2)
    (walked_first_fault a.tables.now (numbers_of a.listing.now) a.text.now a.q a.d a.at a.place (omega (arith, c.argument_count.ensures)) c.in_err-next.field-0.0
    (rw c.in_err-next.was at c.check_tree.ensures))

pub check_arguments-returns : goal.check_arguments-returns
unfolding slot
check_arguments-returns t c =
    let a = c.args in
    walked_more a.tables.now (numbers_of a.listing.now) a.text.now a.q a.d a.at a.place (omega (arith, c.argument_count.ensures)) c.in_ok-next.next.number c.in_ok-next.next.place c.check_arguments.result
    (rw c.in_ok-next.was at c.check_tree.ensures)
    c.check_arguments.ensures

pub check_tree-returns-then-listing-at : goal.check_tree-returns-then-listing-at
check_tree-returns-then-listing-at t c =
    let start = c in
    let a = start.args in
    let e = numbers_length a.listing.now in
    walked_missing a.tables.now (numbers_of a.listing.now) a.text.now a.s a.at a.place (omega arith)

pub check_tree-number_at-n-requires : goal.check_tree-number_at-n-requires
check_tree-number_at-n-requires t c =
    let start = c in
    let a = start.args in
    let e = numbers_length a.listing.now in
    omega arith

pub check_tree-char_right-requires : goal.check_tree-char_right-requires
check_tree-char_right-requires t c =
    let start = c in
    (start.requires.parser_tables.long, start.requires.s_le_slots.0)

pub check_tree-overflow_add-result-then-char_right : goal.check_tree-overflow_add-result-then-char_right
check_tree-overflow_add-result-then-char_right t c =
    let start = c in
    omega (arith, start.requires.s_le_slots.1)

pub check_tree-returns-then-char_right : goal.check_tree-returns-then-char_right
check_tree-returns-then-char_right t c =
    let start = c in
    let a = start.args in
    let e = numbers_length a.listing.now in
    let n = c.number_at-n in
    walked_character a.tables.now (numbers_of a.listing.now) a.text.now a.s a.at a.place n.result (omega arith) n.ensures c.if-n-lt-CHARACTERS.true (sym c.char_right.ensures ∙ c.if-char_right.true)

pub check_tree-returns-then-n-lt-CHARACTERS : goal.check_tree-returns-then-n-lt-CHARACTERS
check_tree-returns-then-n-lt-CHARACTERS t c =
    let start = c in
    let a = start.args in
    let e = numbers_length a.listing.now in
    let n = c.number_at-n in
    walked_no_character a.tables.now (numbers_of a.listing.now) a.text.now a.s a.at a.place n.result (omega arith) n.ensures c.if-n-lt-CHARACTERS.true (sym c.char_right.ensures ∙ c.if-char_right.false)

pub check_tree-production_right-requires : goal.check_tree-production_right-requires
check_tree-production_right-requires t c =
    let start = c in
    (start.requires.parser_tables, start.requires.s_le_slots.0)

pub check_tree-returns-then-not-production_right : goal.check_tree-returns-then-not-production_right
check_tree-returns-then-not-production_right t c =
    let start = c in
    let a = start.args in
    let e = numbers_length a.listing.now in
    let bytes : (k : ℕ) → get_or a.text.now k 0 < characters = λ k. omega (arith, c.type_inv.text k) in
    let n = c.number_at-n in
    let right = c.production_right in
    walked_no_production a.tables.now (numbers_of a.listing.now) a.text.now a.s a.at a.place n.result (omega arith) n.ensures start.requires.parser_tables bytes (omega arith) (sym right.ensures ∙ c.if-not-production_right.true)

pub check_tree-overflow_sub-n : goal.check_tree-overflow_sub-n
check_tree-overflow_sub-n t c =
    let start = c in
    let a = start.args in
    let right = c.production_right in
    let there = production_there a.tables.now a.s c.number_at-n.result (sym right.ensures ∙ c.if-not-production_right.false) in
    omega (arith, there.0)

pub check_tree-check_arguments-requires : goal.check_tree-check_arguments-requires
check_tree-check_arguments-requires t c =
    let start = c in
    let a = start.args in
    let e = numbers_length a.listing.now in
    let right = c.production_right in
    let there = production_there a.tables.now a.s c.number_at-n.result (sym right.ensures ∙ c.if-not-production_right.false) in
    (omega (arith, start.decreases), (start.requires.parser_tables, (omega (arith, there.1), omega arith, start.requires.s_le_slots.1)))

pub check_tree-returns : goal.check_tree-returns
check_tree-returns t c =
    let start = c in
    let a = start.args in
    let e = numbers_length a.listing.now in
    let bytes : (k : ℕ) → get_or a.text.now k 0 < characters = λ k. omega (arith, c.type_inv.text k) in
    let n = c.number_at-n in
    let right = c.production_right in
    walked_production a.tables.now (numbers_of a.listing.now) a.text.now a.s a.at a.place n.result (omega arith) n.ensures start.requires.parser_tables bytes (omega arith) c.check_arguments.result (sym right.ensures ∙ c.if-not-production_right.false)
    c.check_arguments.ensures
