-- `word_of` meets its contract: the bits below b are those of their entries, and there is none above.
use Prim.Native.Nat.{ℕ, ◌+◌}
use mathlib.Core.Bool.{false, ◌&&◌}
use mathlib.Core.Path.{◌≡◌}
use lib.Dec.{ltb}
use lib.ListN.{get_or}
use Rattle.charset.specs.Set.{bit}
use Rattle.charset.proofs.word_of.Given as goal

abbrev pub invariant-loop-b : goal.invariant-loop-b
invariant-loop-b l = (i : ℕ) → bit l.word i ≡ (ltb i l.b && get_or l.row (l.at + i) false)
