-- `write_production` meets its contract: the classes of the arguments passed are written.
use Prim.Native.Nat.{ℕ, ◌+◌, ◌-◌, ◌<◌}
use mathlib.Core.Bool.{◌&&◌}
use mathlib.Core.List.{List}
use mathlib.Core.Path.{◌≡◌, sym, ◌∙◌, ap, subst}
use native.Mathlib.Omega.{arith}
use lib.ListN.{get_or}
use Rattle.classes.specs.Classes.{is_class, class_has}
use Rattle.flatten.proofs.TableLaws.{barred_set, stands_at_argument, written_more, written_next}
use Rattle.flatten.specs.Tables.{WrittenBelow}
use Rattle.grammar.proofs.ArgumentLaws.{argument_below}
use Rattle.layout.proofs.FramedLaws.{production_in, bodies_in}
use Rattle.layout.specs.Layout.{argument_count, production_at, argument}
use Rattle.layout.specs.Limits.{class_base}
use Rattle.tables.specs.Layout.{slot}
use Rattle.flatten.proofs.write_production.Goals as goal

argument_read : (b : List ℕ) (p i at x : ℕ) → at ≡ production_at b p → x ≡ get_or b (at + 1 + i) 0 → x ≡ argument b p i
unfolding argument
argument_read b p i at x e f = f ∙ ap (λ (a : ℕ). get_or b (a + 1 + i) 0) e

pub argument_count-count-requires : goal.argument_count-count-requires
argument_count-count-requires c = let start = c in
    record { book_in_bounds = bodies_in start.args.book.now start.requires.well_formed.framed; p_bound = start.requires.p_bound.0 }

pub loop-i-init : goal.loop-i-init
loop-i-init c = c.requires.written_below

pub overflow_add-x : goal.overflow_add-x
overflow_add-x c =
    let start = c in
    omega (arith, c.argument_count-count.ensures, start.requires.p_bound.1, production_in start.args.book.now start.requires.well_formed.framed start.args.p start.requires.p_bound.0)

pub overflow_add-x-in-loop-i : goal.overflow_add-x-in-loop-i
overflow_add-x-in-loop-i c =
    let start = c in
    omega (arith, c.argument_count-count.ensures, start.requires.p_bound.1, production_in start.args.book.now start.requires.well_formed.framed start.args.p start.requires.p_bound.0)

pub bounds-book-at : goal.bounds-book-at
bounds-book-at c =
    let start = c in
    omega (arith, c.argument_count-count.ensures, start.requires.p_bound.1, production_in start.args.book.now start.requires.well_formed.framed start.args.p start.requires.p_bound.0)

pub standing-stands-requires : goal.standing-stands-requires
standing-stands-requires c = omega (arith, c.loop-i-test.true)

pub overflow_mul-p : goal.overflow_mul-p
overflow_mul-p c =
    let start = c in
    omega (arith, c.argument_count-count.ensures, start.requires.well_formed.framed.few_productions, start.requires.well_formed.framed.few_arguments start.args.p start.requires.p_bound.0)

pub overflow_add-p : goal.overflow_add-p
overflow_add-p c =
    let start = c in
    omega (arith, c.argument_count-count.ensures, start.requires.well_formed.framed.few_productions, start.requires.well_formed.framed.few_arguments start.args.p start.requires.p_bound.0)

pub argument_set-requires : goal.argument_set-requires
argument_set-requires c = let start = c in
    let turn = c.loop-i in
    let b = start.args.book.now in
    let li : turn.i < argument_count b start.args.p = omega (arith, c.argument_count-count.ensures) in
    let x = argument_read b start.args.p turn.i start.args.at c.wide.result start.requires.p_bound.1 c.wide.ensures in
    record { well_formed = start.requires.well_formed; x_bound = omega (arith, argument_below b start.requires.well_formed start.args.p turn.i start.requires.p_bound.0 li) }

pub put_class-requires : goal.put_class-requires
put_class-requires c =
    let start = c in
    (c.loop-i.invariant.counts.long, omega (arith, c.argument_count-count.ensures, start.requires.well_formed.framed.few_productions, start.requires.well_formed.framed.few_arguments start.args.p start.requires.p_bound.0))

pub loop-i-preserved : goal.loop-i-preserved
unfolding slot
loop-i-preserved c =
    let start = c in
    let turn = c.loop-i in
    let argument-count = c.argument_count-count in
    let wide = c.wide in
    let b = start.args.book.now in
    let p = start.args.p in
    let i = turn.i in
    let li : i < argument_count b p = omega (arith, argument-count.ensures, c.loop-i-test.true) in
    let x = argument_read b p i start.args.at wide.result start.requires.p_bound.1 wide.ensures in
    let bars = barred_set b p i argument-count.result start.args.above.words start.args.firsts.words start.args.lasts.words start.requires.barring_sets argument-count.ensures in
    written_more b start.requires.well_formed p i start.requires.p_bound.0 li _ _ _ _ c.put_class.ensures
    (λ z l. c.argument_set.ensures z l ∙ ap (λ (y : ℕ). is_class b y && class_has b (y - class_base) z) x)
    (λ q l. c.standing-stands.ensures q l ∙ rw (c.with_result.ensures q l, bars q l) (stands_at_argument b start.requires.well_formed start.args.sets start.requires.by_result q l p i start.requires.p_bound.0 li _ (sym wide.ensures ∙ x)))
    turn.invariant

pub shape_of-tables : goal.shape_of-tables
shape_of-tables c = c.loop-i.invariant.counts.long ∙ sym c.requires.written_below.counts.long

pub returns : goal.returns
returns c =
    let start = c in
    let b = start.args.book.now in
    let e : c.loop-i.i ≡ argument_count b start.args.p = omega (arith, c.argument_count-count.ensures) in
    written_next b start.requires.well_formed start.args.p c.loop-i.tables (subst (λ (n : ℕ). WrittenBelow b (slot start.args.p n) c.loop-i.tables) e c.loop-i.invariant)
