-- The refusals of a comparison are those of the checks of the two listings, and 29.
use Prim.Native.Nat.{ℕ}
use mathlib.Core.Bool.{not}
use mathlib.Core.List.{List}
use mathlib.Core.Logic.{◌↔◌}
use mathlib.Core.Path.{◌≡◌, refl, sym, ◌∙◌, ap, ap₂, subst}
use native.Mathlib.Omega.{arith}
use Rattle.compare.specs.Answer.{found_right, not_right, compare_lines}
use Rattle.compare.specs.Refusals.{Answered, ComparisonRefused, first, second, first_wrong, second_wrong}
use Rattle.engine.specs.Refusals.{too_long}
use Rattle.refusal.proofs.VerdictLaws.{refused_not_accepted, and_assoc, same_refusal}
use Rattle.refusal.specs.Verdict.{refuse_if, and_then, in_order, unless_refused, Verdict, accepted, refused}
use Rattle.listing.specs.Answer.{bad_listing, judged, listing_answer, ListingAnswer}
use Rattle.priority.specs.Check.{checked}
use Rattle.listing.specs.declared.Judgement.{Judgement}
use Rattle.listing.specs.declared.Judgement.TheVariants.{Right, Wrong}
use Rattle.refusal.specs.declared.Fault.TheVariants.{WrongPair}
use Rattle.refusal.specs.declared.Refusal.{Refusal}
use Rattle.std.specs.Prelude.{Ok, Err, ⊤}

-- ---- by what the two checks answer

refusal_of : (a c : ListingAnswer) → Verdict
refusal_of (Err r) c = Err r
refusal_of (Ok Right) (Err r) = Err r
refusal_of (Ok Right) (Ok (Wrong j)) = refused WrongPair 1
refusal_of (Ok Right) (Ok Right) = accepted
refusal_of (Ok (Wrong i)) (Err r) = Err r
refusal_of (Ok (Wrong i)) (Ok (Wrong j)) = refused WrongPair 0
refusal_of (Ok (Wrong i)) (Ok Right) = refused WrongPair 0

answered : (j : Judgement) → Answered (Ok j)
answered j r e = let z : ◌≡◌ {A = ℕ} 0 1 = cc in omega arith

same : {x y : Refusal} → ◌≡◌ {A = Verdict} (Err x) (Err y) → ◌≡◌ {A = ListingAnswer} (Err x) (Err y)
same e = ap (λ (z : Refusal). Err z) (same_refusal {B = ⊤} e)

module _ {r : Refusal} where
  refusal_holds : (a c : ListingAnswer) → refusal_of a c ≡ Err r → ComparisonRefused a c r
  unfolding refusal_of
  refusal_holds (Err x) c e = first (same e)
  refusal_holds (Ok Right) (Err x) e = second (answered Right) (same e)
  refusal_holds (Ok Right) (Ok (Wrong j)) e = subst (ComparisonRefused (Ok Right) (Ok (Wrong j))) (same_refusal {B = ⊤} e) (second_wrong refl refl)
  refusal_holds (Ok Right) (Ok Right) e = refused_not_accepted r (sym e)
  refusal_holds (Ok (Wrong i)) (Err x) e = second (answered (Wrong i)) (same e)
  refusal_holds (Ok (Wrong i)) (Ok (Wrong j)) e = subst (ComparisonRefused (Ok (Wrong i)) (Ok (Wrong j))) (same_refusal {B = ⊤} e) (first_wrong refl (answered (Wrong j)))
  refusal_holds (Ok (Wrong i)) (Ok Right) e = subst (ComparisonRefused (Ok (Wrong i)) (Ok Right)) (same_refusal {B = ⊤} e) (first_wrong refl (answered Right))

-- a check that answered leaves the refusal to the other
other_refused : (a : ListingAnswer) (r : Refusal) → Answered a → refusal_of a (Err r) ≡ Err r
unfolding refusal_of
other_refused (Ok Right) r h = refl
other_refused (Ok (Wrong i)) r h = refl
other_refused (Err x) r h = absurd (h x refl)

first_wrong_lem : (i : ℕ) (c : ListingAnswer) → Answered c → refusal_of (Ok (Wrong i)) c ≡ refused WrongPair 0
unfolding refusal_of
first_wrong_lem i (Ok Right) h = refl
first_wrong_lem i (Ok (Wrong j)) h = refl
first_wrong_lem i (Err x) h = absurd (h x refl)

holds_refusal : {r : Refusal} (a c : ListingAnswer) → ComparisonRefused a c r → refusal_of a c ≡ Err r
unfolding refusal_of
holds_refusal a c (first e) = rw e refl
holds_refusal a c (second h e) = rw e (other_refused a _ h)
holds_refusal a c (first_wrong {i} e h) = rw e (first_wrong_lem i c h)
holds_refusal a c (second_wrong e f) = rw (e, f) refl

-- ---- they are those of the table

-- u what is refused before the listings are looked at, f and s what is refused of each, x and y what going through them found
in_turn : (u f s : Verdict) (x y : Judgement)
    → and_then u (and_then f (and_then s (and_then (refuse_if (not (found_right x)) WrongPair 0) (refuse_if (not (found_right y)) WrongPair 1))))
    ≡ refusal_of (unless_refused (and_then u f) (Ok x)) (unless_refused (and_then u s) (Ok y))
unfolding refusal_of found_right
in_turn (Err r) f s x y = refl
in_turn (Ok _) (Err r) s x y = refl
in_turn (Ok _) (Ok _) (Err r) x y = sym (other_refused (Ok x) r (answered x))
in_turn (Ok _) (Ok _) (Ok _) Right (Wrong j) = refl
in_turn (Ok _) (Ok _) (Ok _) Right Right = refl
in_turn (Ok _) (Ok _) (Ok _) (Wrong i) (Wrong j) = refl
in_turn (Ok _) (Ok _) (Ok _) (Wrong i) Right = refl

module _ (b w l m : List ℕ) where
  early : Verdict
  early = and_then (checked b) (too_long w)

  answer_parts : (l : List ℕ) → unless_refused (and_then early (bad_listing l)) (Ok (judged b w l)) ≡ listing_answer b w l
  unfolding early listing_answer
  answer_parts l = ap (λ (v : Verdict). unless_refused v (Ok (judged b w l))) (sym (and_assoc (checked b) (too_long w) (bad_listing l)))

  lines_answers : in_order (compare_lines b w l m) ≡ refusal_of (listing_answer b w l) (listing_answer b w m)
  unfolding early not_right
  lines_answers =
      and_assoc (checked b) (too_long w) (and_then (bad_listing l) (and_then (bad_listing m) (and_then (not_right b w l 0) (not_right b w m 1))))
      ∙ in_turn early (bad_listing l) (bad_listing m) (judged b w l) (judged b w m)
      ∙ ap₂ refusal_of (answer_parts l) (answer_parts m)

  -- A refusal of the table is given exactly under its condition.
  pub refused_exactly : (r : Refusal) → (in_order (compare_lines b w l m) ≡ Err r) ↔ ComparisonRefused (listing_answer b w l) (listing_answer b w m) r
  refused_exactly r = (
    (λ e. refusal_holds (listing_answer b w l) (listing_answer b w m) (sym lines_answers ∙ e)),
    (λ h. lines_answers ∙ holds_refusal (listing_answer b w l) (listing_answer b w m) h),
  )

  right_if : (a c : ListingAnswer) → refusal_of a c ≡ accepted → (a ≡ Ok Right) × (c ≡ Ok Right)
  unfolding refusal_of
  right_if (Err r) c e = refused_not_accepted r e
  right_if (Ok Right) (Err r) e = refused_not_accepted r e
  right_if (Ok Right) (Ok (Wrong j)) e = refused_not_accepted _ e
  right_if (Ok Right) (Ok Right) e = (refl, refl)
  right_if (Ok (Wrong i)) (Err r) e = refused_not_accepted r e
  right_if (Ok (Wrong i)) (Ok (Wrong j)) e = refused_not_accepted _ e
  right_if (Ok (Wrong i)) (Ok Right) e = refused_not_accepted _ e

  both_right : (a c : ListingAnswer) → (refusal_of a c ≡ accepted) ↔ ((a ≡ Ok Right) × (c ≡ Ok Right))
  unfolding refusal_of
  both_right a c = ((λ e. right_if a c e), (λ (e, f). rw (e, f) refl))

  -- Nothing is refused exactly if both listings are right.
  pub accepted_exactly : (in_order (compare_lines b w l m) ≡ accepted) ↔ ((listing_answer b w l ≡ Ok Right) × (listing_answer b w m ≡ Ok Right))
  accepted_exactly =
      let (if, only_if) = both_right (listing_answer b w l) (listing_answer b w m) in
      ((λ e. if (sym lines_answers ∙ e)), (λ h. lines_answers ∙ only_if h))
