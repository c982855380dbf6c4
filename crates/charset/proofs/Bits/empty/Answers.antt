-- `empty` meets its contract: no word has a bit.
use Rattle.charset.proofs.BitLaws.{bit_zero}
use Rattle.charset.specs.Set.{has, word_bits}
use Rattle.common.proofs.ZeroLaws.{all_zero}
use Prim.Native.Nat.{◌/◌, ◌%◌}
use Rattle.charset.proofs.Bits.empty.Goals as goal

pub returns : goal.returns
unfolding has
returns g c x l = rw ((all_zero g.row.W).zeros (x / word_bits)) (bit_zero (x % word_bits))
