-- Bytes.
use Rattle.std.specs.Prelude.{ℕ, ◌+◌, ◌*◌, List, get_or}

-- how many values a byte has
abbrev pub byte_values : ℕ
byte_values = 256

-- the number of the two bytes at `at`, the low one first
unfoldable pub number_at : List ℕ → ℕ → ℕ
number_at bytes at = get_or bytes at 0 + byte_values * get_or bytes (at + 1) 0
