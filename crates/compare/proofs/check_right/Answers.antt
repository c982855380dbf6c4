-- `check_right` meets its contract: each listing is gone through by the tables of the grammar.
use Prim.Native.Nat.{ℕ, ◌<◌}
use mathlib.Core.Path.{refl, sym, ◌∙◌, ap}
use native.Mathlib.Omega.{arith}
use lib.ListN.{get_or}
use Rattle.charset.specs.Set.{characters}
use Rattle.compare.proofs.AnswerLaws.{right_passes, wrong_stops}
use Rattle.compare.specs.Answer.{found_right}
use Rattle.listing.proofs.WalkLaws.{tables_judged}
use Rattle.compare.proofs.check_right.Goals as goal

pub returns-then-not-is_right : goal.returns-then-not-is_right
returns-then-not-is_right c =
    let flat = c in
    let start = flat in
    let a = start.args in
    let bytes : (k : ℕ) → get_or a.book.now k 0 < characters = λ k. omega (arith, flat.type_inv.book k) in
    let judged-alike = tables_judged a.book.now start.requires bytes flat.flatten.new.tables flat.flatten.ensures a.text.now in
    let wrong = sym (ap found_right (judged-alike a.first.now)) ∙ sym c.is_right.ensures ∙ c.if-not-is_right.true in
    rw (c.at.ensures, wrong_stops a.book.now a.text.now a.first.now 0 wrong) refl

pub returns-then-not-is_right-2 : goal.returns-then-not-is_right-2
returns-then-not-is_right-2 c =
    let test = c in
    let flat = test in
    let start = flat in
    let a = start.args in
    let bytes : (k : ℕ) → get_or a.book.now k 0 < characters = λ k. omega (arith, flat.type_inv.book k) in
    let judged-alike = tables_judged a.book.now start.requires bytes flat.flatten.new.tables flat.flatten.ensures a.text.now in
    let right = sym (ap found_right (judged-alike a.first.now)) ∙ sym test.is_right.ensures ∙ test.if-not-is_right.false in
    let wrong = sym (ap found_right (judged-alike a.second.now)) ∙ sym c.is_right-2.ensures ∙ c.if-not-is_right-2.true in
    rw (c.at-then-not-is_right-2.ensures, right_passes a.book.now a.text.now a.first.now 0 right, wrong_stops a.book.now a.text.now a.second.now 1 wrong) refl

pub returns : goal.returns
returns c =
    let test = c in
    let flat = test in
    let start = flat in
    let a = start.args in
    let bytes : (k : ℕ) → get_or a.book.now k 0 < characters = λ k. omega (arith, flat.type_inv.book k) in
    let judged-alike = tables_judged a.book.now start.requires bytes flat.flatten.new.tables flat.flatten.ensures a.text.now in
    let right = sym (ap found_right (judged-alike a.first.now)) ∙ sym test.is_right.ensures ∙ test.if-not-is_right.false in
    let also = sym (ap found_right (judged-alike a.second.now)) ∙ sym c.is_right-2.ensures ∙ c.if-not-is_right-2.false in
    rw (right_passes a.book.now a.text.now a.first.now 0 right, right_passes a.book.now a.text.now a.second.now 1 also) refl
