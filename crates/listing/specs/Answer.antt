-- The promise of the operation "checking a listing" (01), stated once, for every grammar, text and listing.
use Rattle.std.specs.Prelude.{ℕ, ◌*◌, ◌%◌, ◌||◌, List, [], ◌∷◌, ltb, eqb, length, Result, Ok}
use Rattle.flatten.specs.Flat.{flat_grammar, plain_class}
use Rattle.refusal.specs.Verdict.{refuse_if, in_order, unless_refused, Verdict}
use Rattle.layout.specs.Layout.{start_sort}
use Rattle.listing.specs.Judge.{judge}
use Rattle.numbers.specs.Numbers.{listing_limit, numbers_of}
use Rattle.engine.specs.Refusals.{too_long}
use Rattle.priority.specs.Check.{checked}
use Rattle.listing.specs.declared.Judgement.{Judgement}
use Rattle.refusal.specs.declared.Refusal.{Refusal}
use Rattle.refusal.specs.declared.Fault.TheVariants.{BadListing}

-- most bytes of a listing that is checked
abbrev pub byte_limit : ℕ
byte_limit = 2 * listing_limit

-- 11: the listing has an odd byte count, or one over the limit; the place is the byte count
unfoldable pub bad_listing : List ℕ → Verdict
bad_listing l = refuse_if (eqb (length l % 2) 1 || ltb byte_limit (length l)) BadListing (length l)

-- At the root a production of the start sort is due.
unfoldable pub judged : (b w l : List ℕ) → Judgement
judged b w l = judge (flat_grammar b) (numbers_of l) (plain_class b (start_sort b) ∷ []) w 0

-- What checking a listing answers.
abbrev pub ListingAnswer : Type 0
ListingAnswer = Result Judgement Refusal

-- A refusal stands, in order: the grammar's, 10, 11. Without one the numbers are gone through.
unfoldable pub listing_answer : (b w l : List ℕ) → ListingAnswer
listing_answer b w l = unless_refused (in_order (checked b ∷ too_long w ∷ bad_listing l ∷ [])) (Ok (judged b w l))
