-- `by_result` meets its contract: the productions passed are in the sets of their results.
use Prim.Native.Nat.{ℕ, ◌<◌}
use mathlib.Core.List.{List}
use mathlib.Core.Path.{◌≡◌, sym, ◌∙◌, ap, subst}
use native.Mathlib.Omega.{arith}
use lib.ListN.{get_or}
use Rattle.flatten.proofs.TableLaws.{results_none, results_more}
use Rattle.flatten.specs.Tables.{ByResult}
use Rattle.grammar.specs.Formed.{WellFormed}
use Rattle.layout.proofs.FramedLaws.{production_in, bodies_in}
use Rattle.layout.proofs.LayoutLaws.{production_first, production_next}
use Rattle.layout.specs.Layout.{productions, production_at, result_sort}
use Rattle.layout.specs.Limits.{sort_limit, production_limit}
use Rattle.flatten.proofs.by_result.Goals as goal

-- the byte at a production's place is its result, which is a sort
result_read : (b : List ℕ) → WellFormed b → (q at x : ℕ) → q < productions b → at ≡ production_at b q → x ≡ get_or b at 0 → (x ≡ result_sort b q) × (x < sort_limit) × (q < production_limit)
unfolding result_sort
result_read b w q at x l e f =
    let is : x ≡ get_or b (production_at b q) 0 = f ∙ ap (λ (a : ℕ). get_or b a 0) e in
    (is, omega (arith, w.result_named q l, w.framed.few_sorts), omega (arith, w.framed.few_productions))

pub production_count-q-end-requires : goal.production_count-q-end-requires
production_count-q-end-requires c = c.requires.framed.header

pub bodies_at-at-requires : goal.bodies_at-at-requires
bodies_at-at-requires c = c.requires.framed.header

pub loop-q-init : goal.loop-q-init
loop-q-init c =
    let start = c in
    (results_none start.args.book.now, c.bodies_at-at.ensures ∙ sym (production_first start.args.book.now))

pub bounds-book-at : goal.bounds-book-at
bounds-book-at c =
    let start = c in
    let turn = c.loop-q in
    omega (arith, turn.invariant.1, production_in start.args.book.now start.requires.framed turn.q (omega (arith, c.production_count-q-end.ensures)))

pub overflow_mul-word : goal.overflow_mul-word
overflow_mul-word c =
    let start = c in
    let turn = c.loop-q in
    let known = result_read start.args.book.now start.requires turn.q turn.at c.wide.result (omega (arith, c.production_count-q-end.ensures)) turn.invariant.1 c.wide.ensures in
    omega (arith, known)

pub overflow_add-word : goal.overflow_add-word
overflow_add-word c =
    let start = c in
    let turn = c.loop-q in
    let known = result_read start.args.book.now start.requires turn.q turn.at c.wide.result (omega (arith, c.production_count-q-end.ensures)) turn.invariant.1 c.wide.ensures in
    omega (arith, known)

pub offset_bounds-sets-word : goal.offset_bounds-sets-word
offset_bounds-sets-word c =
    let start = c in
    let turn = c.loop-q in
    let known = result_read start.args.book.now start.requires turn.q turn.at c.wide.result (omega (arith, c.production_count-q-end.ensures)) turn.invariant.1 c.wide.ensures in
    omega (arith, known)

pub bounds-sets-word : goal.bounds-sets-word
bounds-sets-word c =
    let start = c in
    let turn = c.loop-q in
    let known = result_read start.args.book.now start.requires turn.q turn.at c.wide.result (omega (arith, c.production_count-q-end.ensures)) turn.invariant.1 c.wide.ensures in
    omega (arith, known)

pub bounds-sets-word-in-loop-q : goal.bounds-sets-word-in-loop-q
bounds-sets-word-in-loop-q c =
    let start = c in
    let turn = c.loop-q in
    let known = result_read start.args.book.now start.requires turn.q turn.at c.wide.result (omega (arith, c.production_count-q-end.ensures)) turn.invariant.1 c.wide.ensures in
    omega (arith, known)

pub argument_count-requires : goal.argument_count-requires
argument_count-requires c = let start = c in
    record { book_in_bounds = bodies_in start.args.book.now start.requires.framed; p_bound = omega (arith, c.production_count-q-end.ensures) }

pub overflow_add-at : goal.overflow_add-at
overflow_add-at c =
    let start = c in
    let turn = c.loop-q in
    omega (arith, c.argument_count.ensures, turn.invariant.1, production_in start.args.book.now start.requires.framed turn.q (omega (arith, c.production_count-q-end.ensures)))

pub overflow_add-at-in-loop-q : goal.overflow_add-at-in-loop-q
overflow_add-at-in-loop-q c =
    let start = c in
    let turn = c.loop-q in
    omega (arith, c.argument_count.ensures, turn.invariant.1, production_in start.args.book.now start.requires.framed turn.q (omega (arith, c.production_count-q-end.ensures)))

pub loop-q-preserved : goal.loop-q-preserved
loop-q-preserved c =
    let start = c in
    let turn = c.loop-q in
    let test = c.loop-q-test in
    let known = result_read start.args.book.now start.requires turn.q turn.at c.wide.result (omega (arith, c.production_count-q-end.ensures, test.true)) turn.invariant.1 c.wide.ensures in
    (results_more start.args.book.now turn.q c.wide.result turn.sets turn.invariant.0 known.2 known.1 known.0, omega (arith, c.argument_count.ensures, production_next start.args.book.now turn.q, turn.invariant.1))

pub returns : goal.returns
returns c =
    let start = c in
    let e : c.loop-q.q ≡ productions start.args.book.now = omega (arith, c.production_count-q-end.ensures) in subst (λ (n : ℕ). ByResult start.args.book.now n c.loop-q.sets) e c.loop-q.invariant.0
