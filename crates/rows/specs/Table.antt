-- The rows of a listing in a table: a word for each number, of its depth, start and end. The number itself is in the listing.
use Rattle.std.specs.Prelude.{ℕ, ◌+◌, ◌*◌, ◌/◌, ◌%◌, List, length, get_or}
use Rattle.common.specs.Bytes.{byte_values}
use Rattle.common.specs.Lists.{tabulate}
use Rattle.rows.specs.Rows.{row}
use Rattle.rows.specs.declared.Row.{Row}

-- every place in a text, its end included, is below this: it fits a byte
abbrev pub places : ℕ
places = byte_values

unfoldable pub packed : (depth start end : ℕ) → ℕ
packed depth start end = (depth * places + start) * places + end

-- the word of a row
abbrev pub word : Row → ℕ
word r = packed r.depth r.start r.end

-- the row of number n whose word is x
unfoldable pub unpacked : (n x : ℕ) → Row
unpacked n x = row (x / places / places) n (x / places % places) (x % places)

-- the rows that a table says of these numbers
unfoldable pub table_rows : (numbers table : List ℕ) → List Row
table_rows numbers table = tabulate (length numbers) (λ k. unpacked (get_or numbers k 0) (get_or table k 0))
