-- `minus` meets its contract: the words below k have what is left.
use Prim.Native.Nat.{ℕ, ◌/◌, ◌%◌}
use mathlib.Core.Path.{refl, ◌∙◌, ap}
use native.Mathlib.Omega.{arith}
use lib.ListN.{get_or}
use Rattle.charset.proofs.BitLaws.{bit_without}
use Rattle.charset.specs.Set.{bit, has, word_bits}
use Rattle.common.proofs.RegionLaws.{region_none, front_inside, front_more}
use Rattle.charset.proofs.Bits.minus.Invariants.{Left}
use Rattle.charset.proofs.Bits.minus.Goals as goal

pub loop-k-init : goal.loop-k-init
loop-k-init g c = region_none (Left c.args.self.words c.args.others.words) 0 0 _

pub loop-k-preserved : goal.loop-k-preserved
unfolding Left
loop-k-preserved g c =
    let turn = c.loop-k in
    let kept = turn.invariant.above turn.k (omega arith) in
    front_more (Left c.args.self.words c.args.others.words) turn.k _ turn.words _ (omega arith) turn.invariant (rw kept refl)

pub returns : goal.returns
unfolding Left has
returns g c q l = ap (λ (v : ℕ). bit v (q % word_bits)) (front_inside (Left c.args.self.words c.args.others.words) c.loop-k.k _ c.loop-k.words c.loop-k.invariant (q / word_bits) (omega arith)) ∙ bit_without (get_or c.args.self.words (q / word_bits) 0) (get_or c.args.others.words (q / word_bits) 0) (q % word_bits)
