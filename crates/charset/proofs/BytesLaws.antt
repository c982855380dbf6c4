-- What a slice of bytes holds.
use Prim.Native.Nat.{ℕ, ◌<◌}
use mathlib.Core.List.{List}
use native.Mathlib.Omega.{arith}
use lib.ListN.{get_or}
use mir.Syntax.{w8}
use mir.Val.{Fits}
use Rattle.charset.specs.Set.{characters}

-- what fits a byte is below the count of characters
pub bytes_of : (b : List ℕ) → ((k : ℕ) → Fits w8 (get_or b k 0)) → (k : ℕ) → get_or b k 0 < characters
bytes_of b h k = omega (arith, h k)
