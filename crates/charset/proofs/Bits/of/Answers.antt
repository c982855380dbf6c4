-- `of` meets its contract: the words below k have the bits of their entries.
use Prim.Native.Nat.{ℕ, ◌/◌, ◌%◌}
use mathlib.Core.Bool.{false}
use mathlib.Core.Path.{◌∙◌, ap}
use native.Mathlib.Omega.{arith}
use lib.ListN.{get_or, length-replicate}
use Rattle.charset.specs.Set.{has, word_bits}
use Rattle.common.proofs.RegionLaws.{region_none, front_inside, front_more}
use Rattle.charset.proofs.Bits.of.Invariants.{Word}
use Rattle.charset.proofs.Bits.of.Goals as goal

pub loop-k-init : goal.loop-k-init
loop-k-init g c = region_none (Word c.args.row) 0 0 _

pub loop-k-preserved : goal.loop-k-preserved
unfolding Word
loop-k-preserved g c =
    let turn = c.loop-k in
    front_more (Word c.args.row) turn.k _ turn.words _ (omega (arith, length-replicate {A = ℕ} g.row.W 0)) turn.invariant c.word_of.ensures

pub returns : goal.returns
unfolding Word has
returns g c q l = front_inside (Word c.args.row) c.loop-k.k _ c.loop-k.words c.loop-k.invariant (q / word_bits) (omega arith) (q % word_bits) (omega arith) ∙ ap (λ (k : ℕ). get_or c.args.row k false) (omega arith)
