-- The numbers of a listing's bytes (01, "Readings, listings and the chart"): two bytes a number, low byte first.
use Rattle.std.specs.Prelude.{ℕ, ◌+◌, ◌*◌, List, [], ◌∷◌}
use Rattle.common.specs.Bytes.{byte_values}

-- most numbers of a listing that is lent (01, "Checking a listing")
abbrev pub listing_limit : ℕ
listing_limit = 4096

-- an odd last byte is no number
unfoldable pub numbers_of : List ℕ → List ℕ
numbers_of [] = []
numbers_of (x ∷ []) = []
numbers_of (x ∷ y ∷ bytes) = (x + byte_values * y) ∷ numbers_of bytes
