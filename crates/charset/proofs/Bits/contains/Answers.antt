-- `contains` meets its contract: the shift and the remainder are the bit of the definition, and beyond the words there is none.
use Prim.Native.Nat.{◌/◌, ◌%◌}
use mathlib.Core.Path.{refl}
use native.Mathlib.Omega.{arith}
use lib.ListN.{get_or-eq_default}
use Rattle.charset.specs.Set.{bit, has, word_bits}
use Rattle.charset.proofs.BitLaws.{bit_zero}
use Rattle.charset.proofs.Bits.contains.Goals as goal

pub returns-then-c : goal.returns-then-c
unfolding has
returns-then-c g c =
    rw (get_or-eq_default c.args.self.now.words 0 {n = c.args.c / word_bits} (omega arith), bit_zero (c.args.c % word_bits)) refl

pub returns : goal.returns
unfolding has bit
returns g c = refl
