-- The promise of the operation "which of two readings is lower" (02, [9]), stated once, for every grammar, text and pair of listings.
use Rattle.std.specs.Prelude.{ℕ, Bool, false, true, not, List, [], ◌∷◌, ◌≡◌, Result, Ok, Err}
use Rattle.compare.specs.Uses.{uses}
use Rattle.engine.specs.Refusals.{too_long}
use Rattle.refusal.specs.Verdict.{refuse_if, in_order, Verdict}
use Rattle.listing.specs.Answer.{bad_listing, judged}
use Rattle.order.specs.Order.{Uses, OrderIs}
use Rattle.order.specs.declared.Order.{Order}
use Rattle.priority.specs.Check.{checked}
use Rattle.listing.specs.declared.Judgement.{Judgement}
use Rattle.listing.specs.declared.Judgement.TheVariants.{Right, Wrong}
use Rattle.refusal.specs.declared.Fault.TheVariants.{WrongPair}
use Rattle.refusal.specs.declared.Refusal.{Refusal}

-- going through a listing found it right
unfoldable pub found_right : Judgement → Bool
found_right Right = true
found_right (Wrong index) = false

-- 29: a listing that is not right; the place says which of the two, 0 the first, 1 the second
unfoldable pub not_right : (b w l : List ℕ) (which : ℕ) → Verdict
not_right b w l which = refuse_if (not (found_right (judged b w l))) WrongPair which

-- A refusal stands, in order: the grammar's, 10, 11 of the first listing, 11 of the second, 29 of the first, 29 of the second.
abbrev pub compare_lines : (b w first second : List ℕ) → List Verdict
compare_lines b w first second =
    checked b ∷ too_long w ∷ bad_listing first ∷ bad_listing second ∷ not_right b w first 0 ∷ not_right b w second 1 ∷ []

-- What comparing answers: how the first stands to the second, or a refusal.
abbrev pub CompareAnswer : Type 0
CompareAnswer = Result Order Refusal

-- What comparing gives: a refusal, or what the order says of the uses.
unfoldable pub ComparedIf : Verdict → (b : List ℕ) (m n : Uses) → CompareAnswer → Type 0
ComparedIf (Err x) b m n r = r ≡ Err x
ComparedIf (Ok _) b m n r = (o : Order) × (r ≡ Ok o) × OrderIs b m n o

-- r is the answer for the two parses of w by b that these listings list.
unfoldable pub Compared : (b w first second : List ℕ) → CompareAnswer → Type 0
Compared b w first second r = ComparedIf (in_order (compare_lines b w first second)) b (uses first) (uses second) r
