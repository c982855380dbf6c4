-- `add_bits` meets its contract: the bits passed are added.
use Prim.Native.Nat.{◌+◌}
use mathlib.Core.Path.{◌∙◌}
use native.Mathlib.Nat.{le_refl}
use native.Mathlib.Omega.{arith}
use Rattle.load.proofs.BitsLaws.{bits_none, bits_more, bits_ended}
use Rattle.load.proofs.add_bits.Goals as goal

pub loop-x-init : goal.loop-x-init
loop-x-init c =
    let start = c in
    (bits_none start.args.s start.args.first start.args.first start.args.tables.now (le_refl start.args.first), le_refl start.args.first, omega arith)

pub add_member-requires : goal.add_member-requires
add_member-requires c =
    let start = c in
    (c.loop-x.invariant.0.long ∙ start.requires.0, start.requires.1, omega (arith, start.requires.2))

pub loop-x-preserved : goal.loop-x-preserved
loop-x-preserved c =
    let turn = c.loop-x in
    (bits_more _ _ turn.x _ turn.tables _ turn.invariant.1 turn.invariant.0 c.add_member.ensures, omega (arith, turn.invariant.1), omega arith)

pub shape_of-tables : goal.shape_of-tables
shape_of-tables c = c.loop-x.invariant.0.long

pub returns : goal.returns
returns c =
    let start = c in
    let turn = c.loop-x in
    bits_ended start.args.s start.args.first (start.args.last + 1) turn.x start.args.tables.now turn.tables turn.invariant.1 turn.invariant.2 (omega arith) turn.invariant.0
