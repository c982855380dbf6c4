-- `read` meets its contract: the words, one by one.
use Prim.Native.Nat.{◌+◌, ◌-◌, ◌/◌, ◌%◌}
use mathlib.Core.Path.{◌∙◌, ap}
use native.Mathlib.Omega.{arith}
use lib.ListN.{drop}
use lib.Seq.{get_or-take, get_or-drop}
use Rattle.charset.specs.Set.{bit, has, word_bits}
use Rattle.charset.proofs.Bits.read.Goals as goal

pub returns : goal.returns
unfolding has
returns g c x l =
    let s = c.args in
    let i = x / word_bits in
    let count = s.at + g.row.W - s.at in
    rw c.copy_from_slice.ensures.after
    (ap (λ v. bit v (x % word_bits)) (get_or-take count (drop s.at s.words.now) i 0 (omega arith) ∙ get_or-drop s.at s.words.now i 0))
