-- Fields of an input: two bytes of length, low byte first, then that many bytes; the last may be cut short.
use Rattle.std.specs.Prelude.{ℕ, ◌+◌, ◌*◌, min, List, length, get_or}
use Rattle.common.specs.Bytes.{byte_values, number_at}

unfoldable pub field_start : List ℕ → ℕ → ℕ
field_start input at = min (at + 2) (length input)

unfoldable pub field_end : List ℕ → ℕ → ℕ
field_end input at = min (at + 2 + number_at input at) (length input)

-- the number that the first three bytes have, low byte first; a byte that is missing counts as 0
abbrev pub number_in : List ℕ → ℕ
number_in bytes = get_or bytes 0 0 + byte_values * (get_or bytes 1 0 + byte_values * get_or bytes 2 0)
