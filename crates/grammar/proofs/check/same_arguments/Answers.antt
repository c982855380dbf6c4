-- `same_arguments` meets its contract: no two arguments passed differ.
use Prim.Native.Nat.{ℕ, ◌+◌}
use mathlib.Core.Path.{◌≡◌, sym, ◌∙◌, subst}
use mathlib.Core.Bool.{true}
use native.Mathlib.Omega.{arith}
use borrow.Author.Tests.{eq-eqb, ne_eqb}
use Rattle.common.proofs.BelowLaws.{all_none, all_more, all_lost}
use Rattle.common.specs.Below.{all_below}
use Rattle.layout.specs.Layout.{byte_at}
use Rattle.grammar.proofs.check.same_arguments.Invariants.{same}
use Rattle.grammar.proofs.check.same_arguments.Goals as goal

pub loop-i-init : goal.loop-i-init
loop-i-init c = (all_none (same c.args.book.now c.args.at c.args.other))

pub overflow_add-at : goal.overflow_add-at
overflow_add-at c = omega (arith, c.requires.count_in_bounds)

pub bounds-book-at : goal.bounds-book-at
bounds-book-at c = omega (arith, c.requires.count_in_bounds)

pub stands_for-requires : goal.stands_for-requires
stands_for-requires c = let canonical = c.requires.canonical in (canonical.long, canonical.small _)

pub overflow_add-other : goal.overflow_add-other
overflow_add-other c = omega (arith, c.requires.count_in_bounds_2)

pub bounds-book-other : goal.bounds-book-other
bounds-book-other c = omega (arith, c.requires.count_in_bounds_2)

pub stands_for-requires-in-loop-i : goal.stands_for-requires-in-loop-i
stands_for-requires-in-loop-i c = let canonical = c.requires.canonical in (canonical.long, canonical.small _)

pub returns-then-stands_for : goal.returns-then-stands_for
unfolding same
returns-then-stands_for c =
    let s = c in
    let a = s.args in
    let i = c.loop-i.i in
    let x = byte_at a.book.now (a.at + i) in
    let y = byte_at a.book.now (a.other + i) in
    let said = s.requires.canonical.decides x y (omega (arith, c.type_inv.table (a.at + i))) (omega (arith, c.type_inv.table (a.other + i))) in
    sym (all_lost (same a.book.now a.at a.other) i _ (omega arith) (sym said ∙ ne_eqb _ _ (λ e. c.if-stands_for.true (c.stands_for.ensures ∙ e ∙ sym c.stands_for-in-loop-i.ensures))))

pub loop-i-preserved : goal.loop-i-preserved
unfolding same
loop-i-preserved c =
    let s = c in
    let a = s.args in
    let i = c.loop-i.i in
    let x = byte_at a.book.now (a.at + i) in
    let y = byte_at a.book.now (a.other + i) in
    let said = s.requires.canonical.decides x y (omega (arith, c.type_inv.table (a.at + i))) (omega (arith, c.type_inv.table (a.other + i))) in
    all_more (same a.book.now a.at a.other) i c.loop-i.invariant (sym said ∙ eq-eqb _ _ (sym c.stands_for.ensures ∙ c.if-stands_for.false ∙ c.stands_for-in-loop-i.ensures))

pub returns : goal.returns
unfolding same
returns c =
    let a = c.args in
    let e : c.loop-i.i ≡ a.count = omega arith in
    sym (subst (λ (k : ℕ). all_below k (same a.book.now a.at a.other) ≡ true) e c.loop-i.invariant)
