-- `used_octet` meets its contract: the arguments below d are joined.
use Prim.Native.Nat.{ℕ, ◌+◌}
use mathlib.Core.Path.{sym, ap, subst}
use lib.Bits.{bit_or}
use Rattle.links.proofs.LinkedLaws.{joined_more}
use Rattle.links.specs.Linked.{Joined}
use Rattle.tables.specs.Layout.{slot}
use Rattle.links.proofs.used_octet.Goals as goal

pub loop-d-preserved : goal.loop-d-preserved
unfolding slot
loop-d-preserved c =
    let start = c in
    let turn = c.loop-d in
    subst (λ (v : ℕ). Joined start.args.tables.now start.args.p start.args.k (turn.d + 1) v) (ap (bit_or turn.all) (sym c.class_octet-all.ensures)) (joined_more start.args.tables.now start.args.p start.args.k turn.d turn.all turn.invariant)
