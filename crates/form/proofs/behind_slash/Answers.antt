-- `behind_slash` meets its contract.
use mathlib.Core.Bool.{false, true}
use mathlib.Core.Path.{◌≡◌, refl, sym, ◌∙◌}
use Rattle.writing.specs.Digits.{is_digit}
use Rattle.form.specs.Step.{behind_slash}
use Rattle.form.proofs.behind_slash.Goals as goal

pub digit_value-requires : goal.digit_value-requires
digit_value-requires c = cc

pub returns-then-is_digit : goal.returns-then-is_digit
unfolding behind_slash
returns-then-is_digit c =
    let start = c in
    let test : is_digit start.args.byte ≡ true = sym c.is_digit.ensures ∙ c.if-is_digit.true in
    rw (test, ← c.digit_value.ensures) refl

pub returns : goal.returns
unfolding behind_slash
returns c =
    let start = c in
    let test : is_digit start.args.byte ≡ false = sym c.is_digit.ensures ∙ c.if-is_digit.false in
    rw test refl
