-- `minus` meets its contract: the words below k have what is left.
use Prim.Native.Nat.{ℕ}
use mathlib.Core.List.{List}
use mathlib.Core.Path.{◌≡◌}
use lib.Bits.{bit_and, bit_xor}
use lib.ListN.{get_or}
use Rattle.common.specs.Region.{Region}
use Rattle.charset.proofs.Bits.minus.Given as goal

unfoldable pub Left : List ℕ → List ℕ → ℕ → ℕ → Type 0
Left own taken k v = v ≡ bit_xor (get_or own k 0) (bit_and (get_or own k 0) (get_or taken k 0))

abbrev pub invariant-loop-k : goal.invariant-loop-k
invariant-loop-k g l = Region (Left l.initial.words l.others.words) 0 0 l.k l.initial.words l.words
