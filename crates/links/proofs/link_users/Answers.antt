-- `link_users` meets its contract: the productions of the octets below k are linked.
use Prim.Native.Nat.{ℕ, ◌+◌, ◌*◌, min}
use mathlib.Core.Path.{◌≡◌, subst}
use native.Mathlib.Omega.{arith}
use lib.ListN.{length}
use Rattle.links.proofs.LinkedLaws.{users_more}
use Rattle.links.specs.Linked.{UsersTo}
use Rattle.tables.specs.Layout.{octet_bits}
use Rattle.links.proofs.link_users.Goals as goal

pub loop-k-preserved : goal.loop-k-preserved
loop-k-preserved c =
    let start = c in
    let counts = start.args.counts.now in
    let tables = start.args.tables.now in
    let turn = c.loop-k in
    let row-octets = c.row_octets-octets in
    let count = c.min-count.result in
    let turn-octets = c.turn_octets in
    let out = turn-octets.new.out in
    let before : min (turn.k * octet_bits) (length counts) ≡ turn.k * octet_bits = omega arith in
    let after : turn.k * octet_bits + count ≡ min ((turn.k + 1) * octet_bits) (length counts) = omega arith in
    let more = users_more counts tables start.requires.counts_len_bound.0 start.requires.counts_len_bound.1 turn.k count (omega arith) row-octets.result turn.users out (subst (λ (n : ℕ). UsersTo counts tables n turn.users) before turn.invariant) row-octets.ensures turn-octets.ensures in
    subst (λ (n : ℕ). UsersTo counts tables n out) after more
