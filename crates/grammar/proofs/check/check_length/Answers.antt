-- `check_length` meets its contract: the declarations end where the length called for does.
use Prim.Native.Nat.{ℕ}
use mathlib.Core.Path.{◌≡◌, refl, sym, ◌∙◌, ap}
use native.Mathlib.Omega.{arith}
use lib.ListN.{length}
use borrow.Author.Tests.{eq-eqb, ne_eqb}
use Rattle.grammar.specs.Check.{bad_length}
use Rattle.layout.proofs.LayoutLaws.{needed_is_end}
use Rattle.layout.specs.Layout.{declarations, declaration_at, needed_length}
use Rattle.grammar.proofs.check.check_length.Goals as goal

needed : (b : _) (r d : ℕ) → d ≡ declarations b → r ≡ declaration_at b d → needed_length b ≡ r
needed b r d e h = needed_is_end b ∙ sym (ap (λ (k : ℕ). declaration_at b k) e) ∙ sym h

pub returns-then-book-needed : goal.returns-then-book-needed
unfolding bad_length
returns-then-book-needed c =
    let b = c.args.book.now in
    let n = needed b _ _ c.declaration_count.ensures c.declaration_at-needed.ensures in
    rw (n, ne_eqb (length b) c.declaration_at-needed.result c.if-book-needed.true, c.at.ensures, c.min.ensures) refl

pub returns : goal.returns
unfolding bad_length
returns c =
    let b = c.args.book.now in
    let n = needed b _ _ c.declaration_count.ensures c.declaration_at-needed.ensures in
    rw (n, eq-eqb (length b) c.declaration_at-needed.result (omega arith)) refl
