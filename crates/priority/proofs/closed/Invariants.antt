-- `closed` meets its contract: after the turn for a middle, entries are chains through all middles so far.
use Prim.Native.Nat.{ℕ}
use mathlib.Core.Path.{◌≡◌}
use Rattle.priority.specs.Chain.{through, entry}
use Rattle.priority.proofs.closed.Given as goal

abbrev pub invariant-loop-middle : goal.invariant-loop-middle
invariant-loop-middle l = (x y : ℕ) → entry l.closure x y ≡ through (entry l.initial.closure) l.middle x y
