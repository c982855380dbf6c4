-- `ranges_set` meets its contract: the set holds the characters of the ranges passed.
use Prim.Native.Nat.{ℕ, ◌+◌, ◌*◌}
use mathlib.Core.Path.{◌≡◌, sym, ◌∙◌, ap, ap₂}
use mathlib.Core.Bool.{◌||◌}
use mathlib.Core.List.{List}
use native.Mathlib.Omega.{arith}
use Rattle.charset.specs.Set.{spans}
use Rattle.classes.specs.Classes.{class_has}
use Rattle.common.proofs.BelowLaws.{any_none, any_next}
use Rattle.layout.proofs.FramedLaws.{class_in, bodies_in}
use Rattle.layout.proofs.LayoutLaws.{low_read, high_read}
use Rattle.layout.specs.Layout.{byte_at, range_count, low, high}
use Rattle.classes.proofs.ranges_set.Invariants.{in_ranges}
use Rattle.classes.proofs.ranges_set.Goals as goal

-- one range more
next_range : (b : List ℕ) (k r c : ℕ) → in_ranges b k (r + 1) c ≡ (in_ranges b k r c || spans (low b k r) (high b k r) c)
unfolding in_ranges
next_range b k r c = any_next (λ j. spans (low b k j) (high b k j) c) r

pub range_count-r-end-requires-clause-book_in_bounds : goal.range_count-r-end-requires-clause-book_in_bounds
range_count-r-end-requires-clause-book_in_bounds c = bodies_in c.args.book.now c.requires.framed

pub loop-r-init : goal.loop-r-init
unfolding in_ranges
loop-r-init c =
    let a = c.args in
    λ x l. c.empty-set.ensures x l ∙ sym (any_none (λ j. spans (low a.book.now a.k j) (high a.book.now a.k j) x))

pub overflow_add-at : goal.overflow_add-at
overflow_add-at c = let s = c in omega (arith, c.range_count-r-end.ensures, s.requires.at_value, class_in s.args.book.now s.requires.framed s.args.k s.requires.k_bound)

pub bounds-book-at : goal.bounds-book-at
bounds-book-at c = let s = c in omega (arith, c.range_count-r-end.ensures, s.requires.at_value, class_in s.args.book.now s.requires.framed s.args.k s.requires.k_bound)

pub overflow_add-at-in-loop-r : goal.overflow_add-at-in-loop-r
overflow_add-at-in-loop-r c = let s = c in omega (arith, c.range_count-r-end.ensures, s.requires.at_value, class_in s.args.book.now s.requires.framed s.args.k s.requires.k_bound)

pub overflow_add-at-in-loop-r-2 : goal.overflow_add-at-in-loop-r-2
overflow_add-at-in-loop-r-2 c = let s = c in omega (arith, c.range_count-r-end.ensures, s.requires.at_value, class_in s.args.book.now s.requires.framed s.args.k s.requires.k_bound)

pub bounds-book-at-in-loop-r : goal.bounds-book-at-in-loop-r
bounds-book-at-in-loop-r c = let s = c in omega (arith, c.range_count-r-end.ensures, s.requires.at_value, class_in s.args.book.now s.requires.framed s.args.k s.requires.k_bound)

pub loop-r-preserved : goal.loop-r-preserved
loop-r-preserved c =
    let s = c in
    let b = s.args.book.now in
    let k = s.args.k in
    let at = s.args.at in
    let r = c.loop-r.r in
    let ends : (x : ℕ) → spans (byte_at b (at + 2 * r)) (byte_at b (at + 2 * r + 1)) x ≡ spans (low b k r) (high b k r) x =
    λ x. ap₂ (λ (y z : ℕ). spans y z x) (low_read b k at r s.requires.at_value) (high_read b k at r s.requires.at_value) in
    λ x l. c.insert_range-set.ensures x l ∙ ap₂ ◌||◌ (c.loop-r.invariant x l) (ends x) ∙ sym (next_range b k r x)

pub returns : goal.returns
unfolding class_has in_ranges
returns c x l =
    let a = c.args in
    let e : c.loop-r.r ≡ range_count a.book.now a.k = omega (arith, c.range_count-r-end.ensures) in
    c.loop-r.invariant x l ∙ ap (λ (n : ℕ). in_ranges a.book.now a.k n x) e
