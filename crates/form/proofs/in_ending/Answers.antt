-- `in_ending` meets its contract.
use Prim.Native.Nat.{◌+◌}
use mathlib.Core.Path.{sym, ◌∙◌}
use borrow.Author.Tests.{eq-eqb, ne_eqb}
use Rattle.form.specs.Step.{ending_byte, ending_length, in_ending}
use Rattle.form.proofs.in_ending.Goals as goal

pub returns-then-k-eq-ENDING_LENGTH : goal.returns-then-k-eq-ENDING_LENGTH
unfolding in_ending
returns-then-k-eq-ENDING_LENGTH c =
    let start = c in
    let test = eq-eqb start.args.byte (ending_byte start.args.line start.args.k) (c.if-byte-ending_byte.true ∙ c.ending_byte.ensures) in
    rw (test, eq-eqb (start.args.k + 1) ending_length c.if-k-eq-ENDING_LENGTH.true) c.at.ensures

pub returns-then-byte-ending_byte : goal.returns-then-byte-ending_byte
unfolding in_ending
returns-then-byte-ending_byte c =
    let start = c in
    let test = eq-eqb start.args.byte (ending_byte start.args.line start.args.k) (c.if-byte-ending_byte.true ∙ c.ending_byte.ensures) in
    rw (test, ne_eqb (start.args.k + 1) ending_length c.if-k-eq-ENDING_LENGTH.false) c.at-then-byte-ending_byte.ensures

pub returns : goal.returns
unfolding in_ending
returns c =
    let start = c in
    let test = ne_eqb start.args.byte (ending_byte start.args.line start.args.k) (λ e. c.if-byte-ending_byte.false (e ∙ sym c.ending_byte.ensures)) in
    rw test c.at-2.ensures
