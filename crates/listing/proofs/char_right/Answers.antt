-- `char_right` meets its contract: the next byte, and its bit in the slot's class.
use Prim.Native.Nat.{ℕ}
use mathlib.Core.Bool.{and-true, and-false}
use mathlib.Core.Path.{◌≡◌, sym, ◌∙◌, ap}
use native.Mathlib.Omega.{arith}
use lib.ListN.{get_or}
use borrow.Author.Tests.{eq-eqb, ne_eqb}
use Rattle.listing.proofs.WalkLaws.{next_none, next_is}
use Rattle.tables.specs.Layout.{takes_char}
use Rattle.listing.proofs.char_right.Goals as goal

pub returns-then-text-place : goal.returns-then-text-place
returns-then-text-place c =
    let a = c.args in
    sym (rw (next_none a.text.now a.place a.n c.if-text-place.true) (and-false (takes_char a.tables.now a.s a.n)))

pub returns-then-wide-n : goal.returns-then-wide-n
returns-then-wide-n c =
    let a = c.args in
    let next = next_is a.text.now a.place a.n (omega arith) in
    let other = ne_eqb (get_or a.text.now a.place 0) a.n (λ e. c.if-wide-n.true (c.wide.ensures ∙ e)) in
    sym (rw (next, other) (and-false (takes_char a.tables.now a.s a.n)))

pub returns : goal.returns
returns c =
    let a = c.args in
    let e : get_or a.text.now a.place 0 ≡ a.n = sym c.wide.ensures ∙ omega (arith, c.if-wide-n.false) in
    let next = next_is a.text.now a.place a.n (omega arith) in
    c.takes_char.ensures
    ∙ ap (λ (x : ℕ). takes_char a.tables.now a.s x) e
    ∙ sym (rw (next, eq-eqb (get_or a.text.now a.place 0) a.n e) (and-true (takes_char a.tables.now a.s a.n)))
