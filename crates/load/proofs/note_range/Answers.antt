-- `note_range` meets its contract.
use mathlib.Core.Bool.{false, true}
use mathlib.Core.Path.{◌≡◌, refl, sym, ◌∙◌, ap}
use native.Mathlib.Omega.{arith}
use Rattle.form.specs.Read.{range_to, ends_range}
use Rattle.load.proofs.NoteLaws.{number_below}
use Rattle.load.specs.Held.{number_bit, RangeNoted}
use Rattle.load.proofs.note_range.Goals as goal

pub add_bits-requires : goal.add_bits-requires
add_bits-requires c =
    let start = c in
    (start.requires.0, start.requires.1, omega (arith, c.number_bit-then-ends_range.ensures, number_below start.args.v start.requires.2))

pub returns-then-ends_range : goal.returns-then-ends_range
unfolding RangeNoted range_to
returns-then-ends_range c =
    let start = c in
    let test : ends_range start.args.byte ≡ true = sym c.ends_range.ensures ∙ c.if-ends_range.true in
    let from = c.number_bit.ensures ∙ ap number_bit c.range_start.ensures in
    rw (test, ← from, ← c.number_bit-then-ends_range.ensures) c.add_bits.ensures

pub returns-else-ends_range : goal.returns-else-ends_range
unfolding RangeNoted range_to
returns-else-ends_range c =
    let start = c in
    let test : ends_range start.args.byte ≡ false = sym c.ends_range.ensures ∙ c.if-ends_range.false in
    rw test refl
