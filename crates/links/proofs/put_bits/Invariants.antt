-- `put_bits` meets its contract: the bits of the octets below r are written.
use Prim.Native.Nat.{ℕ}
use mathlib.Core.List.{List}
use mathlib.Core.Path.{◌≡◌}
use lib.ListN.{get_or}
use Rattle.charset.specs.Set.{bit}
use Rattle.common.specs.Below.{bit_of}
use Rattle.common.specs.Region.{Region}
use Rattle.links.proofs.put_bits.Given as goal

unfoldable pub Entry : List ℕ → ℕ → ℕ → ℕ → Type 0
Entry octets b r v = v ≡ bit_of (bit (get_or octets r 0) b)

abbrev pub invariant-loop-r : goal.invariant-loop-r
invariant-loop-r l = Region (Entry l.octets l.b) 0 l.at l.r l.initial.out l.out
