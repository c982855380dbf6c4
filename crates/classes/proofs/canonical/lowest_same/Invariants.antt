-- `lowest_same` meets its contract: no set passed is the same.
use Prim.Native.Nat.{ℕ}
use mathlib.Core.Bool.{Bool, true}
use mathlib.Core.List.{List}
use Rattle.charset.proofs.SeekLaws.{Passed}
use Rattle.charset.specs.Set.{same_set}
use Rattle.classes.specs.Canonical.{set_has}
use Rattle.classes.proofs.canonical.lowest_same.Given as goal

-- set j is the same as set k
abbrev pub same : List ℕ → ℕ → ℕ → Bool
same sets k j = same_set (set_has sets k) (set_has sets j)

abbrev pub invariant-loop-j : goal.invariant-loop-j
invariant-loop-j l = Passed l.k (same l.sets l.k) true 0 l.j
