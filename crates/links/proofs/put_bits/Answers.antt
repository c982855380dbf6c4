-- `put_bits` meets its contract: the bits of the octets below r are written.
use Prim.Native.Nat.{ℕ, ◌/◌, ◌%◌, ◌^◌}
use mathlib.Core.Path.{◌≡◌, subst}
use native.Mathlib.Omega.{arith}
use lib.ListN.{length, get_or}
use Rattle.charset.specs.Set.{bit}
use Rattle.common.proofs.BelowLaws.{bit_test}
use Rattle.common.proofs.RegionLaws.{region_more}
use Rattle.common.specs.Region.{Region}
use Rattle.links.proofs.put_bits.Invariants.{Entry}
use Rattle.links.proofs.put_bits.Goals as goal

pub loop-r-preserved : goal.loop-r-preserved
unfolding Entry bit
loop-r-preserved c =
    let start = c in
    let turn = c.loop-r in
    region_more (Entry start.args.octets.now start.args.b) 0 start.args.at start.args.out.now turn.r turn.out _ (omega arith) turn.invariant (bit_test (get_or start.args.octets.now turn.r 0 / 2 ^ start.args.b % 2) (omega arith))

pub returns : goal.returns
unfolding Entry
returns c =
    let start = c in
    let e : c.loop-r.r ≡ length start.args.octets.now = omega arith in subst (λ (n : ℕ). Region (Entry start.args.octets.now start.args.b) 0 start.args.at n start.args.out.now c.loop-r.out) e c.loop-r.invariant
