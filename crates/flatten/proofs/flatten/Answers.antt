-- `flatten` meets its contract: the classes of the productions passed are written.
use Prim.Native.Nat.{ℕ, ◌<◌}
use mathlib.Core.Path.{◌≡◌, sym, ◌∙◌, subst}
use native.Mathlib.Omega.{arith}
use Rattle.flatten.proofs.TableLaws.{barring_rows, barring_sets, written_all}
use Rattle.flatten.specs.Tables.{WrittenBelow}
use Rattle.layout.proofs.FramedLaws.{production_in, bodies_in}
use Rattle.layout.proofs.LayoutLaws.{production_first, production_next}
use Rattle.layout.specs.Layout.{productions}
use Rattle.priority.specs.Priorities.{kind_number}
use Rattle.tables.specs.Layout.{slot}
use Rattle.flatten.proofs.flatten.Goals as goal

pub priorities-above-requires : goal.priorities-above-requires
priorities-above-requires c = c.requires.well_formed

pub declared_pairs-firsts-requires : goal.declared_pairs-firsts-requires
declared_pairs-firsts-requires c = c.requires.well_formed

pub declared_pairs-lasts-requires : goal.declared_pairs-lasts-requires
declared_pairs-lasts-requires c = c.requires.well_formed

pub by_result-sets-requires : goal.by_result-sets-requires
by_result-sets-requires c = c.requires.well_formed

pub write_counts_and_root-requires : goal.write_counts_and_root-requires
write_counts_and_root-requires c = let start = c in
    record { well_formed = start.requires.well_formed; by_result = c.by_result-sets.ensures; tables_len = start.requires.tables_len }

pub production_count-p-end-requires : goal.production_count-p-end-requires
production_count-p-end-requires c = c.requires.well_formed.framed.header

pub bodies_at-at-requires : goal.bodies_at-at-requires
bodies_at-at-requires c = c.requires.well_formed.framed.header

pub loop-p-init : goal.loop-p-init
loop-p-init c = (c.write_counts_and_root.ensures, c.bodies_at-at.ensures ∙ sym (production_first c.args.book.now))

pub offset_bounds-above-p : goal.offset_bounds-above-p
offset_bounds-above-p c = omega (arith, c.production_count-p-end.ensures, c.requires.well_formed.framed.few_productions)

pub bounds-above-p : goal.bounds-above-p
bounds-above-p c = omega (arith, c.production_count-p-end.ensures, c.requires.well_formed.framed.few_productions)

pub offset_bounds-firsts-p : goal.offset_bounds-firsts-p
offset_bounds-firsts-p c = omega (arith, c.production_count-p-end.ensures, c.requires.well_formed.framed.few_productions)

pub bounds-firsts-p : goal.bounds-firsts-p
bounds-firsts-p c = omega (arith, c.production_count-p-end.ensures, c.requires.well_formed.framed.few_productions)

pub offset_bounds-lasts-p : goal.offset_bounds-lasts-p
offset_bounds-lasts-p c = omega (arith, c.production_count-p-end.ensures, c.requires.well_formed.framed.few_productions)

pub bounds-lasts-p : goal.bounds-lasts-p
bounds-lasts-p c = omega (arith, c.production_count-p-end.ensures, c.requires.well_formed.framed.few_productions)

pub write_production-requires : goal.write_production-requires
unfolding kind_number
write_production-requires c = let start = c in
    let turn = c.loop-p in
    let of = c.of in
    let of2 = c.of-in-loop-p in
    let b = start.args.book.now in
    let above = c.priorities-above in
    let firsts = c.declared_pairs-firsts in
    let lasts = c.declared_pairs-lasts in
    let rows = barring_rows b start.requires.well_formed above.result firsts.result lasts.result above.ensures firsts.ensures lasts.ensures turn.p in
    let sets = barring_sets rows of.result.words of2.result.words c.of-in-loop-p-2.result.words of.ensures of2.ensures c.of-in-loop-p-2.ensures in
    record { well_formed = start.requires.well_formed; p_bound = (omega (arith, c.production_count-p-end.ensures, c.loop-p-test.true), turn.invariant.1); barring_sets = sets; by_result = c.by_result-sets.ensures; written_below = turn.invariant.0 }

pub argument_count-requires : goal.argument_count-requires
argument_count-requires c = let start = c in
    record { book_in_bounds = bodies_in start.args.book.now start.requires.well_formed.framed; p_bound = omega (arith, c.production_count-p-end.ensures, c.loop-p-test.true) }

pub overflow_add-at : goal.overflow_add-at
overflow_add-at c =
    let start = c in
    let turn = c.loop-p in
    let l : turn.p < productions start.args.book.now = omega (arith, c.production_count-p-end.ensures, c.loop-p-test.true) in
    omega (arith, c.argument_count.ensures, turn.invariant.1, production_in start.args.book.now start.requires.well_formed.framed turn.p l)

pub overflow_add-at-in-loop-p : goal.overflow_add-at-in-loop-p
overflow_add-at-in-loop-p c =
    let start = c in
    let turn = c.loop-p in
    let l : turn.p < productions start.args.book.now = omega (arith, c.production_count-p-end.ensures, c.loop-p-test.true) in
    omega (arith, c.argument_count.ensures, turn.invariant.1, production_in start.args.book.now start.requires.well_formed.framed turn.p l)

pub loop-p-preserved : goal.loop-p-preserved
loop-p-preserved c =
    let turn = c.loop-p in
    (c.write_production.ensures, omega (arith, c.argument_count.ensures, production_next c.args.book.now turn.p, turn.invariant.1))

pub shape_of-tables : goal.shape_of-tables
shape_of-tables c = c.loop-p.invariant.0.counts.long ∙ sym c.requires.tables_len

pub returns : goal.returns
returns c =
    let start = c in
    let b = start.args.book.now in
    let e : c.loop-p.p ≡ productions b = omega (arith, c.production_count-p-end.ensures) in
    written_all b start.requires.well_formed c.loop-p.tables (subst (λ (n : ℕ). WrittenBelow b (slot n 0) c.loop-p.tables) e c.loop-p.invariant.0)
