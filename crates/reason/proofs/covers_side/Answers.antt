-- `covers_side` meets its contract: the kind that is said, and the pair either way round.
use mathlib.Core.Path.{◌∙◌, ap₂}
use mathlib.Core.Bool.{◌&&◌, ◌||◌}
use Prim.Native.Nat.{ℕ}
use lib.Dec.{eqb}
use Rattle.priority.specs.Priorities.{nonassoc, kind_number}
use Rattle.reason.proofs.SideLaws.{covers_side_lem}
use Rattle.reason.proofs.covers_side.Goals as goal

pub returns : goal.returns
unfolding kind_number
returns c k side =
    let a = c.args in
    let said = c.said_kind-said in
    ap₂ ◌&&◌
    (ap₂ (λ (n m : ℕ). eqb n m || eqb n (kind_number nonassoc)) said.ensures side.0)
    (ap₂ ◌||◌ c.names_pair.ensures c.names_pair-2.ensures)
    ∙ covers_side_lem a.own a.p a.q k side.1
