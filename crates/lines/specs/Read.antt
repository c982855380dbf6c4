-- Reading a line of the page.
use Rattle.std.specs.Prelude.{ℕ, ◌+◌, ◌<◌, ◌≡◌, List, [], ◌∷◌, map, get_or, take}
use Rattle.std.proofs.Math.Seq.{slice}
use Rattle.lines.specs.Text.{text_width, shown}
use Rattle.rows.specs.declared.Row.{Row}
use Rattle.writing.specs.Bytes.{space, line_feed}
use Rattle.writing.specs.Digits.{numerals_in}
use Rattle.writing.specs.Numeral.{numeral, value_of}

-- What can be read back from a line of the page (02, [1]): the columns, counted from 0.
pub record ReadBack (w : List ℕ) (r : Row) (line : List ℕ) : Type 0 where
  pub depth : value_of (slice 0 4 line) ≡ r.depth
  pub number : value_of (slice 5 9 line) ≡ r.number
  pub start : value_of (slice 10 13 line) ≡ r.start
  pub end : value_of (slice 14 17 line) ≡ r.end
  -- before the text stand the numerals of these four, and no others
  pub numerals : numerals_in (take 18 line) ≡ map numeral (r.depth ∷ r.number ∷ r.start ∷ r.end ∷ [])
  -- a space behind each of them
  pub spaces : (get_or line 4 0 ≡ space) × (get_or line 9 0 ≡ space) × (get_or line 13 0 ≡ space) × (get_or line 17 0 ≡ space)
  pub text : (c : ℕ) → c < text_width → get_or line (18 + c) 0 ≡ shown w r.start r.end c
  pub last : get_or line 72 0 ≡ line_feed
