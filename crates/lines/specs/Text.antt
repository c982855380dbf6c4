-- The page of a tree's rows (02, [1]): a line of 73 bytes for each.
use Rattle.std.specs.Prelude.{ℕ, ◌+◌, ◌^◌, ◌≤◌, ◌<◌, cond, ◌&&◌, List, [], ◌∷◌, ◌++◌, leb, ltb, length, get_or}
use Rattle.common.specs.Lists.{tabulate, joined}
use Rattle.rows.specs.declared.Row.{Row}
use Rattle.writing.specs.Bytes.{space, line_feed}
use Rattle.writing.specs.Numeral.{numeral_base, set_right}

-- ---- how wide the columns are

-- depths and numbers
abbrev pub number_width : ℕ
number_width = 4

-- places in the text
abbrev pub place_width : ℕ
place_width = 3

-- the text
abbrev pub text_width : ℕ
text_width = 54

-- a line, its line feed included
abbrev pub line_length : ℕ
line_length = 73

-- ---- what stands in them

-- the last byte that is printed as it is; the first is the space
abbrev pub tilde : ℕ
tilde = 126

abbrev pub full_stop : ℕ
full_stop = 46

-- a byte outside 32 to 126 is printed as a full stop
unfoldable pub printed : ℕ → ℕ
printed c = cond (leb space c && leb c tilde) c full_stop

-- column c of the text from start to end: its byte, or a space behind its last one
unfoldable pub shown : (w : List ℕ) (start end c : ℕ) → ℕ
shown w start end c = cond (ltb (start + c) end) (printed (get_or w (start + c) 0)) space

-- a number set right, and the space behind it
unfoldable pub column : (width n : ℕ) → List ℕ
column width n = set_right width n ++ (space ∷ [])

-- ---- lines

-- depth, number, start and end; then the text's first bytes, filled with spaces
unfoldable pub row_text : List ℕ → Row → List ℕ
row_text w r =
    column number_width r.depth ++ column number_width r.number ++ column place_width r.start ++ column place_width r.end
    ++ tabulate text_width (shown w r.start r.end) ++ (line_feed ∷ [])

unfoldable pub page_text : List ℕ → List Row → List ℕ
page_text w rs = joined (row_text w) rs

-- The numbers of a row fit their columns, and its text is a part of w.
pub record RowFits (w : List ℕ) (r : Row) : Type 0 where
  pub depth : r.depth < numeral_base ^ number_width
  pub number : r.number < numeral_base ^ number_width
  pub start : r.start < numeral_base ^ place_width
  pub end : r.end < numeral_base ^ place_width
  pub within : r.end ≤ length w
