-- `stands_for` meets its contract.
use Prim.Native.Nat.{ℕ, ◌-◌}
use mathlib.Core.Path.{ap}
use lib.ListN.{get_or}
use Rattle.classes.specs.Canonical.{stands_for}
use Rattle.classes.proofs.canonical.stands_for.Goals as goal

pub returns : goal.returns
unfolding stands_for
returns c =
    let a = c.args in
    ap (λ (n : ℕ). a.x - get_or a.table.now n 0) c.from.ensures
