-- `canonical_arguments` meets its contract: each class passed is held and has its lowest.
use Prim.Native.Nat.{ℕ}
use mathlib.Core.Path.{◌≡◌, subst}
use native.Mathlib.Omega.{arith}
use Rattle.classes.proofs.CanonicalLaws.{class_few, held_none, Filled, filled_none, filled_more, filled_all}
use Rattle.layout.proofs.FramedLaws.{class_in, bodies_in}
use Rattle.layout.proofs.LayoutLaws.{class_next}
use Rattle.layout.specs.Layout.{classes}
use Rattle.classes.proofs.canonical.canonical_arguments.Goals as goal

pub class_at-at-requires-clause-book_in_bounds : goal.class_at-at-requires-clause-book_in_bounds
class_at-at-requires-clause-book_in_bounds c = bodies_in c.args.book.now c.requires

pub loop-k-init : goal.loop-k-init
loop-k-init c =
    let b = c.args.book.now in
    (c.class_at-at.ensures, held_none b, filled_none b)

pub range_count-requires-clause-book_in_bounds : goal.range_count-requires-clause-book_in_bounds
range_count-requires-clause-book_in_bounds c = bodies_in c.args.book.now c.requires

pub overflow_add-at : goal.overflow_add-at
overflow_add-at c = let within = class_in c.args.book.now c.requires c.loop-k.k (omega (arith, c.class_count-k-end.ensures)) in omega (arith, c.range_count.ensures, c.loop-k.invariant.0)

pub loop-k-preserved : goal.loop-k-preserved
loop-k-preserved c =
    let s = c in
    let b = s.args.book.now in
    let at = c.loop-k in
    let k = at.k in
    let few = class_few b s.requires k (omega (arith, c.class_count-k-end.ensures)) in
    let held = c.hold_set in
    (omega (arith, c.range_count.ensures, at.invariant.0, class_next b k), held.ensures, filled_more b at.table held.new.sets k c.lowest_same.result few held.ensures c.lowest_same.ensures at.invariant.2)

pub returns : goal.returns
returns c =
    let b = c.args.book.now in
    let at = c.loop-k in
    let all : at.k ≡ classes b = omega (arith, c.class_count-k-end.ensures) in
    filled_all b at.table (subst (λ (n : ℕ). Filled b n at.table) all at.invariant.2)
