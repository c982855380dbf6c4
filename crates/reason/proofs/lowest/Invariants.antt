-- `lowest` meets its contract: it goes on while no declaration covers the pair.
use Prim.Native.Nat.{ℕ, ◌-◌, ◌<◌}
use mathlib.Core.Path.{◌≡◌}
use mathlib.Core.Bool.{false}
use Rattle.layout.specs.Layout.{declarations}
use Rattle.priority.specs.Priorities.{Kind}
use Rattle.reason.specs.Reason.{covers_side}
use Rattle.reason.specs.Side.{IsSide}
use Rattle.reason.proofs.lowest.Given as goal

abbrev pub invariant-loop-d : goal.invariant-loop-d
invariant-loop-d l = (k : Kind) → IsSide k l.kind → (e : ℕ) → e < l.d → covers_side l.book k l.p l.q e ≡ false

abbrev pub decreases-loop-d : goal.decreases-loop-d
decreases-loop-d l = declarations l.book - l.d
