-- `write_next` meets its contract: the last level says what comes next, and the laws of a step say what it leads to.
use mathlib.Core.Path.{◌≡◌, sym, ◌∙◌}
use native.Mathlib.Omega.{arith}
use lib.ListN.{length}
use borrow.Author.Rules.{rules}
use Rattle.extract.proofs.ArgumentLaws.{argument_in, char_one}
use Rattle.extract.proofs.StepLaws.{last_room, few_written, due_production, due_argument, due_rises, char_further, child_count, child_cell, bare_further, child_few, child_room, child_further}
use Rattle.levels.specs.Levels.{end_count}
use Rattle.tables.proofs.LayoutLaws.{counts_few, slot_in}
use Rattle.extract.proofs.write_next.Goals as goal

pub due_at-due-requires : goal.due_at-due-requires
due_at-due-requires c =
    let start = c in
    (last_room start.requires.midway start.requires.le_n.0, few_written start.requires.midway start.requires.le_n.0 start.requires.le_n.1 start.requires.n_bound)

pub count_argument-requires : goal.count_argument-requires
count_argument-requires c =
    let start = c in
    (last_room start.requires.midway start.requires.le_n.0, few_written start.requires.midway start.requires.le_n.0 start.requires.le_n.1 start.requires.n_bound)

pub char_fits-requires : goal.char_fits-requires
char_fits-requires c =
    let due-at = c.due_at-due in
    let need = c.requires in
    let h = c.requires.midway in
    let due = due-at.result in
    let is = due-at.ensures in
    let p = due_production h c.requires.le_n.0 c.requires.le_n.1 c.requires.n_bound due.production due.argument due.from due.to is in
    let d = due_argument h c.requires.le_n.0 c.requires.le_n.1 c.requires.n_bound due.production due.argument due.from due.to is in
    let inside = argument_in h.walkable due.production due.argument p d in
    let rises = due_rises h c.requires.le_n.0 c.requires.le_n.1 c.requires.n_bound due.production due.argument due.from due.to is in
    (slot_in due.production due.argument inside.0 inside.1, h.walkable.fits.tables.long, rises.0, rises.1)

pub bounds-text-m : goal.bounds-text-m
bounds-text-m c =
    let start = c in
    let due-at = c.due_at-due in
    let a = start.args in
    let due = due-at.result in
    let rises = due_rises start.requires.midway start.requires.le_n.0 start.requires.le_n.1 start.requires.n_bound due.production due.argument due.from due.to due-at.ensures in
    omega (arith, rises, char_one a.tables.now a.text.now due.production due.argument due.from due.to (sym c.char_fits.ensures ∙ c.if-char_fits.true))

pub put_number-requires : goal.put_number-requires
put_number-requires c = (omega (arith, c.wide.ensures, c.type_inv.chart c.due_at-due.result.from), omega (arith, c.requires.le_n.1))

pub returns-then-char_fits : goal.returns-then-char_fits
returns-then-char_fits c =
    let start = c in
    let due-at = c.due_at-due in
    let count-argument = c.count_argument in
    let put-number = c.put_number in
    let wide = c.wide in
    let due = due-at.result in
    char_further start.requires.midway start.requires.le_n.0 start.requires.le_n.1 start.requires.n_bound due.production due.argument due.from due.to due-at.ensures count-argument.new.levels put-number.new.out put-number.result wide.result
    count-argument.ensures (sym c.char_fits.ensures ∙ c.if-char_fits.true) wide.ensures put-number.ensures

pub first_child-q-requires : goal.first_child-q-requires
first_child-q-requires c = let due-at = c.due_at-due in
    let need = c.requires in
    let h = c.requires.midway in
    let due = due-at.result in
    let is = due-at.ensures in
    let rises = due_rises h c.requires.le_n.0 c.requires.le_n.1 c.requires.n_bound due.production due.argument due.from due.to is in
    record { walkable = h.walkable; p_in_bounds = (due_production h c.requires.le_n.0 c.requires.le_n.1 c.requires.n_bound due.production due.argument due.from due.to is, due_argument h c.requires.le_n.0 c.requires.le_n.1 c.requires.n_bound due.production due.argument due.from due.to is, rises.0, rises.1) }

pub overflow_add-q : goal.overflow_add-q
overflow_add-q c =
    let start = c in
    omega (arith, c.first_child-q.ensures.within, counts_few start.args.tables.now start.requires.midway.walkable.fits.tables)

pub put_number-next-requires : goal.put_number-next-requires
put_number-next-requires c =
    let start = c in
    (omega (arith, c.first_child-q.ensures.within, counts_few start.args.tables.now start.requires.midway.walkable.fits.tables), omega (arith, start.requires.le_n.1))

pub argument_count-requires : goal.argument_count-requires
argument_count-requires c =
    let start = c in
    let due-at = c.due_at-due in
    let first-child = c.first_child-q in
    let due = due-at.result in
    (start.requires.midway.walkable.fits.tables, child_count start.requires.midway start.requires.le_n.0 start.requires.le_n.1 start.requires.n_bound due.production due.argument due.from due.to due-at.ensures (sym c.char_fits.ensures ∙ c.if-char_fits.false) first-child.result first-child.ensures)

pub returns-then-argument_count-eq0 : goal.returns-then-argument_count-eq0
returns-then-argument_count-eq0 c =
    let start = c in
    let due-at = c.due_at-due in
    let first-child = c.first_child-q in
    let count-argument = c.count_argument in
    let put-number2 = c.put_number-next in
    let due = due-at.result in
    bare_further start.requires.midway start.requires.le_n.0 start.requires.le_n.1 start.requires.n_bound due.production due.argument due.from due.to due-at.ensures (sym c.char_fits.ensures ∙ c.if-char_fits.false) first-child.result first-child.ensures
    count-argument.new.levels put-number2.new.out put-number2.result count-argument.ensures (sym c.argument_count.ensures ∙ c.if-argument_count-eq0.true) put-number2.ensures

pub find_splits-ends-requires : goal.find_splits-ends-requires
find_splits-ends-requires c = let due-at = c.due_at-due in
    let first-child = c.first_child-q in
    let need = c.requires in
    let h = c.requires.midway in
    let due = due-at.result in
    let is = due-at.ensures in
    let none = sym c.char_fits.ensures ∙ c.if-char_fits.false in
    let rises = due_rises h c.requires.le_n.0 c.requires.le_n.1 c.requires.n_bound due.production due.argument due.from due.to is in
    let u = first-child.result in
    let first = first-child.ensures in
    record { walkable = h.walkable; p_in_bounds = (child_count h c.requires.le_n.0 c.requires.le_n.1 c.requires.n_bound due.production due.argument due.from due.to is none u first, rises.0, rises.1); bound = child_cell h c.requires.le_n.0 c.requires.le_n.1 c.requires.n_bound due.production due.argument due.from due.to is none u first }

pub open_level-requires : goal.open_level-requires
open_level-requires c =
    let start = c in
    let due-at = c.due_at-due in
    let first-child = c.first_child-q in
    let need = start.requires in
    let h = start.requires.midway in
    let due = due-at.result in
    let is = due-at.ensures in
    let none = sym c.char_fits.ensures ∙ c.if-char_fits.false in
    let u = first-child.result in
    let first = first-child.ensures in
    (omega (arith, child_room h start.requires.le_n.0 start.requires.le_n.1 start.requires.n_bound due.production due.argument due.from due.to is none u first, c.count_argument.auto.levels), omega (arith, child_count h start.requires.le_n.0 start.requires.le_n.1 start.requires.n_bound due.production due.argument due.from due.to is none u first, counts_few start.args.tables.now h.walkable.fits.tables))

pub overflow_add-result : goal.overflow_add-result
overflow_add-result c =
    let start = c in
    let due-at = c.due_at-due in
    let first-child = c.first_child-q in
    let due = due-at.result in
    omega (arith, child_few start.requires.midway start.requires.le_n.0 start.requires.le_n.1 start.requires.n_bound due.production due.argument due.from due.to due-at.ensures (sym c.char_fits.ensures ∙ c.if-char_fits.false) first-child.result first-child.ensures)

pub returns : goal.returns
returns c =
    let start = c in
    let due-at = c.due_at-due in
    let find-splits = c.find_splits-ends in
    let first-child = c.first_child-q in
    let count-argument = c.count_argument in
    let open-level = c.open_level in
    let put-number2 = c.put_number-next in
    let due = due-at.result in
    let long : length find-splits.result ≡ end_count = search rules in
    child_further start.requires.midway start.requires.le_n.0 start.requires.le_n.1 start.requires.n_bound due.production due.argument due.from due.to due-at.ensures (sym c.char_fits.ensures ∙ c.if-char_fits.false) first-child.result first-child.ensures
    find-splits.result count-argument.new.levels open-level.new.levels put-number2.new.out put-number2.result count-argument.ensures long find-splits.ensures open-level.ensures put-number2.ensures
