-- `in_number` meets its contract.
use mathlib.Core.Bool.{false, true}
use mathlib.Core.Path.{◌≡◌, refl, sym, ◌∙◌}
use borrow.Author.Tests.{eq-eqb, ne_eqb}
use Rattle.writing.specs.Digits.{is_digit}
use Rattle.form.specs.Step.{allowed, in_number}
use Rattle.form.proofs.in_number.Goals as goal

pub returns-then-v-eq0 : goal.returns-then-v-eq0
unfolding in_number
returns-then-v-eq0 c =
    let start = c in
    let test : is_digit start.args.byte ≡ true = sym c.is_digit.ensures ∙ c.if-is_digit.true in
    rw (test, eq-eqb start.args.v 0 c.if-v-eq0.true) refl

pub digit_value-requires : goal.digit_value-requires
digit_value-requires c = cc

pub returns-then-is_digit : goal.returns-then-is_digit
unfolding in_number
returns-then-is_digit c =
    let start = c in
    let test : is_digit start.args.byte ≡ true = sym c.is_digit.ensures ∙ c.if-is_digit.true in
    rw (test, ne_eqb start.args.v 0 c.if-v-eq0.false, ← c.digit_value.ensures) refl

pub returns-then-allowed : goal.returns-then-allowed
unfolding in_number
returns-then-allowed c =
    let start = c in
    let test : is_digit start.args.byte ≡ false = sym c.is_digit.ensures ∙ c.if-is_digit.false in
    let may : allowed start.args.low start.args.v ≡ true = sym c.allowed.ensures ∙ c.if-allowed.true in
    rw (test, may) c.behind_number.ensures

pub returns : goal.returns
unfolding in_number
returns c =
    let start = c in
    let test : is_digit start.args.byte ≡ false = sym c.is_digit.ensures ∙ c.if-is_digit.false in
    let may : allowed start.args.low start.args.v ≡ false = sym c.allowed.ensures ∙ c.if-allowed.false in
    rw (test, may) refl
