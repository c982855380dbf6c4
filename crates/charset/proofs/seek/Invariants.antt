-- `seek` meets its contract: all places passed are not as wanted.
use Prim.Native.Nat.{ℕ}
use mathlib.Core.Bool.{Bool}
use Rattle.charset.proofs.SeekLaws.{Passed}
use Rattle.charset.specs.Sought.{Computed}
use Rattle.charset.proofs.seek.Given as goal

abbrev pub invariant-loop-at : goal.invariant-loop-at
invariant-loop-at g l = (f : ℕ → Bool) → Computed (goal.F-post g) l.member l.from l.limit f → Passed l.limit f l.wanted l.from l.at
