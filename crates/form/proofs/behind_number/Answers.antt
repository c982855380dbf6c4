-- `behind_number` meets its contract.
use mathlib.Core.Path.{refl}
use borrow.Author.Tests.{eq-eqb}
use Rattle.ccg.specs.Text.{dash}
use Rattle.form.specs.Step.{behind_number}
use Rattle.refusal.proofs.VerdictLaws.{cases}
use Rattle.form.proofs.behind_number.Goals as goal

pub returns-then-dashed : goal.returns-then-dashed
unfolding behind_number
returns-then-dashed c =
    let start = c in
    rw (eq-eqb start.args.byte dash c.if-byte-eq45.true, c.if-dashed.true) refl

pub returns-then-byte-eq45 : goal.returns-then-byte-eq45
unfolding behind_number
returns-then-byte-eq45 c =
    let start = c in
    rw (eq-eqb start.args.byte dash c.if-byte-eq45.true, c.if-dashed.false) refl

pub returns-then-byte-eq92 : goal.returns-then-byte-eq92
unfolding behind_number
returns-then-byte-eq92 c = search cases

pub returns-then-byte-eq93 : goal.returns-then-byte-eq93
unfolding behind_number
returns-then-byte-eq93 c = search cases

pub returns : goal.returns
unfolding behind_number
returns c = search cases
