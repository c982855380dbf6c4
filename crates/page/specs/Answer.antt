-- The promises of the operations "the page of a reading" and "the text under a number" (02, [1]), stated once, for every grammar, text, listing and buffer.
use Rattle.std.specs.Prelude.{ℕ, ◌+◌, ◌*◌, ◌≤◌, ◌≡◌, List, length, get_or, Result, Ok, Err}
use Rattle.std.proofs.Math.Seq.{slice}
use Rattle.common.specs.Lists.{overwritten}
use Rattle.flatten.specs.Reading.{Reading}
use Rattle.listing.specs.Answer.{listing_answer, ListingAnswer}
use Rattle.numbers.specs.Numbers.{numbers_of}
use Rattle.lines.specs.Text.{line_length, page_text}
use Rattle.rows.specs.Rows.{no_row, rows}
use Rattle.rows.specs.Table.{places}
use Rattle.rows.specs.declared.Row.{Row}
use Rattle.theory.specs.Tree.{Tree, listing}
use Rattle.writing.specs.Answer.{fitted}
use Rattle.listing.specs.declared.Judgement.TheVariants.{Right, Wrong}
use Rattle.refusal.specs.Verdict.{refused}
use Rattle.refusal.specs.declared.Fault.TheVariants.{WrongListing, LongPage}
use Rattle.refusal.specs.declared.Refusal.{Refusal}

-- t is the parse of w whose listing was lent. There is no other.
pub record Listed (b w l : List ℕ) (t : Tree) : Type 0 where
  pub reading : Reading b w t
  pub listed : listing t ≡ numbers_of l

-- ---- the page

-- how many bytes the page of a listing has
unfoldable pub page_length : List ℕ → ℕ
page_length l = line_length * length (numbers_of l)

-- By what checking the listing answers: its refusals stand; 23 if it is wrong, the place is the index;
-- 24 if the page is longer than the buffer, the place is the page's length.
unfoldable pub page_if : ListingAnswer → (needed room : ℕ) → Result ℕ Refusal
page_if (Err r) needed room = Err r
page_if (Ok (Wrong index)) needed room = refused WrongListing index
page_if (Ok Right) needed room = fitted LongPage needed room

unfoldable pub page_answer : (b w l : List ℕ) (room : ℕ) → Result ℕ Refusal
page_answer b w l room = page_if (listing_answer b w l) (page_length l) room

-- The buffer, which held page₀, then starts with the page of the parse listed, and beyond it is what it was; a refusal changes nothing.
unfoldable pub PageAfter : (b w l page₀ : List ℕ) → Result ℕ Refusal → (page : List ℕ) → Type 0
PageAfter b w l page₀ (Ok n) page = (t : Tree) × Listed b w l t × (page ≡ overwritten (page_text w (rows 0 0 t)) page₀)
PageAfter b w l page₀ (Err r) page = page ≡ page₀

pub record PageOutcome (b w l page₀ : List ℕ) (r : Result ℕ Refusal) (page : List ℕ) : Type 0 where
  pub answer : r ≡ page_answer b w l (length page₀)
  pub after : PageAfter b w l page₀ r page

-- ---- the text under a number

-- By what checking the listing answers: the row of a number of the parse listed; and no row if the listing has no such number, is wrong, or is not checked.
unfoldable pub RowIf : ListingAnswer → (b w l : List ℕ) (index : ℕ) → Row → Type 0
RowIf (Ok Right) b w l index r = (t : Tree) × Listed b w l t × (r ≡ get_or (rows 0 0 t) index no_row)
RowIf (Ok (Wrong k)) b w l index r = r ≡ no_row
RowIf (Err x) b w l index r = r ≡ no_row

-- r is the row under number `index`; it says which part of the text that is. Without such a number it is the empty part at the text's start.
pub record RowUnder (b w l : List ℕ) (index : ℕ) (r : Row) : Type 0 where
  pub is_row : RowIf (listing_answer b w l) b w l index r
  pub ordered : r.start ≤ r.end
  pub within : r.end ≤ length w

-- `part` is the part of the text under number `index`.
pub record TextUnder (b w l : List ℕ) (index : ℕ) (part : List ℕ) : Type 0 where
  pub row : Row
  pub under : RowUnder b w l index row
  pub is_part : part ≡ slice row.start row.end w

-- n says which part of the text is under number `index`: 256 × its start + its end.
pub record PlacesUnder (b w l : List ℕ) (index n : ℕ) : Type 0 where
  pub row : Row
  pub under : RowUnder b w l index row
  pub says : n ≡ places * row.start + row.end
