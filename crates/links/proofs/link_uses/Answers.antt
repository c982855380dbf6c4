-- `link_uses` meets its contract: the productions of the octets below k are linked.
use Prim.Native.Nat.{ℕ, ◌+◌, ◌*◌, min}
use mathlib.Core.Path.{◌≡◌, subst}
use native.Mathlib.Omega.{arith}
use lib.ListN.{length}
use Rattle.links.proofs.LinkedLaws.{uses_more}
use Rattle.links.specs.Linked.{UsesTo}
use Rattle.tables.specs.Layout.{octet_bits}
use Rattle.links.proofs.link_uses.Goals as goal

pub loop-k-preserved : goal.loop-k-preserved
loop-k-preserved c =
    let start = c in
    let counts = start.args.counts.now in
    let tables = start.args.tables.now in
    let turn = c.loop-k in
    let used-octets = c.used_octets-octets in
    let count = c.min-count.result in
    let turn-octets = c.turn_octets in
    let out = turn-octets.new.out in
    let before : min (turn.k * octet_bits) (length counts) ≡ turn.k * octet_bits = omega arith in
    let after : turn.k * octet_bits + count ≡ min ((turn.k + 1) * octet_bits) (length counts) = omega arith in
    let more = uses_more counts tables start.requires.counts_len_bound.0 start.requires.counts_len_bound.1 turn.k count (omega arith) used-octets.result turn.uses out (subst (λ (n : ℕ). UsesTo counts tables n turn.uses) before turn.invariant) used-octets.ensures turn-octets.ensures in
    subst (λ (n : ℕ). UsesTo counts tables n out) after more
