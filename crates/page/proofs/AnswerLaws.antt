-- What the page answers, each answer exactly under its condition: written, 24, 23, and what checking the listing refuses.
use Prim.Native.Nat.{ℕ, ◌≤◌, ◌<◌}
use mathlib.Core.List.{List}
use mathlib.Core.Logic.{◌↔◌, ◌⊎◌, inl, inr}
use mathlib.Core.Path.{◌≡◌, refl, sym, ap}
use native.Mathlib.Omega.{arith}
use Rattle.listing.proofs.RefusedLaws.{refused_small}
use Rattle.listing.specs.Answer.{listing_answer, ListingAnswer}
use Rattle.page.specs.Answer.{page_length, page_if, page_answer}
use Rattle.writing.proofs.AnswerLaws.{refused_written, written_exactly, refused_exactly}
use Rattle.listing.specs.declared.Judgement.TheVariants.{Right, Wrong}
use Rattle.std.specs.Prelude.{Ok, Err, Result}
use Rattle.refusal.specs.Verdict.{refused, refusal}
use Rattle.refusal.specs.declared.Fault.TheVariants.{WrongListing, LongPage}
use Rattle.refusal.specs.declared.Refusal.{Refusal}
use Rattle.refusal.proofs.VerdictLaws.{same_refusal}
use Rattle.refusal.specs.Fault.{number_of}

-- ---- by what checking the listing answers

abbrev Answer : Type 0
Answer = Result ℕ Refusal

same : {x y : Refusal} → ◌≡◌ {A = Answer} (Err x) (Err y) → x ≡ y
same = same_refusal {B = ℕ}

-- a refusal of the check has one of its own numbers
abbrev Small : ListingAnswer → Type 0
Small a = (x : Refusal) → a ≡ Err x → number_of x.fault ≤ 11

module _ (needed room : ℕ) where
  written_if : (a : ListingAnswer) (n : ℕ) → page_if a needed room ≡ Ok n → (a ≡ Ok Right) × (n ≡ needed) × (n ≤ room)
  unfolding page_if
  written_if (Ok Right) n e = let h = (written_exactly LongPage needed room n).0 e in (refl, h.0, h.1)
  written_if (Ok (Wrong k)) n e = refused_written n (refusal WrongListing k) e
  written_if (Err x) n e = refused_written n x e

  too_long_if : (a : ListingAnswer) (k : ℕ) → Small a → page_if a needed room ≡ refused LongPage k → (a ≡ Ok Right) × (k ≡ needed) × (room < k)
  unfolding page_if
  too_long_if (Ok Right) k small e =
      let h = (refused_exactly LongPage needed room (refusal LongPage k)).0 e in
      let place = ap (λ (x : Refusal). x.place) h.0 in
      (refl, place, omega (arith, h.1, place))
  too_long_if (Ok (Wrong j)) k small e = absurd (omega (arith, ap (λ (x : Refusal). number_of x.fault) (same e)))
  too_long_if (Err x) k small e = absurd (omega (arith, ap (λ (y : Refusal). number_of y.fault) (same e), small x refl))

  wrong_if : (a : ListingAnswer) (k : ℕ) → Small a → page_if a needed room ≡ refused WrongListing k → a ≡ Ok (Wrong k)
  unfolding page_if
  wrong_if (Ok Right) k small e =
      let h = (refused_exactly LongPage needed room (refusal WrongListing k)).0 e in
      absurd (omega (arith, ap (λ (x : Refusal). number_of x.fault) h.0))
  wrong_if (Ok (Wrong j)) k small e = ap (λ (x : Refusal). Ok (Wrong x.place)) (same e)
  wrong_if (Err x) k small e = absurd (omega (arith, ap (λ (y : Refusal). number_of y.fault) (same e), small x refl))

  refused_if : (a : ListingAnswer) (x : Refusal) → number_of x.fault ≤ 11 → page_if a needed room ≡ Err x → a ≡ Err x
  unfolding page_if
  refused_if (Ok Right) x small e =
      let h = (refused_exactly LongPage needed room x).0 e in
      absurd (omega (arith, small, ap (λ (y : Refusal). number_of y.fault) h.0))
  refused_if (Ok (Wrong j)) x small e = absurd (omega (arith, small, ap (λ (y : Refusal). number_of y.fault) (same e)))
  refused_if (Err y) x small e = ap (λ (z : Refusal). Err z) (same e)

  number_if : (a : ListingAnswer) (x : Refusal) → Small a → page_if a needed room ≡ Err x → (number_of x.fault ≤ 11) ⊎ ((number_of x.fault ≡ 23) ⊎ (number_of x.fault ≡ 24))
  unfolding page_if
  number_if (Ok Right) x small e = inr (inr (ap (λ (y : Refusal). number_of y.fault) ((refused_exactly LongPage needed room x).0 e).0))
  number_if (Ok (Wrong j)) x small e = inr (inl (sym (ap (λ (y : Refusal). number_of y.fault) (same e))))
  number_if (Err y) x small e = inl (omega (arith, ap (λ (z : Refusal). number_of z.fault) (same e), small y refl))

-- ---- the answer

module _ (b w l : List ℕ) (room : ℕ) where
  -- Written exactly if the listing is right and its page fits.
  pub page_fits : (n : ℕ) → (page_answer b w l room ≡ Ok n) ↔ ((listing_answer b w l ≡ Ok Right) × (n ≡ page_length l) × (n ≤ room))
  unfolding page_answer page_if
  page_fits n = (written_if (page_length l) room (listing_answer b w l) n, (λ h. rw h.0 ((written_exactly LongPage (page_length l) room n).1 (h.1, h.2))))

  -- 24 exactly if it is right and its page doesn't fit; the place is how many bytes the page has.
  pub page_too_long : (k : ℕ) → (page_answer b w l room ≡ refused LongPage k) ↔ ((listing_answer b w l ≡ Ok Right) × (k ≡ page_length l) × (room < k))
  unfolding page_answer page_if
  page_too_long k = (
    too_long_if (page_length l) room (listing_answer b w l) k (refused_small b w l),
    (λ h. rw h.0 ((refused_exactly LongPage (page_length l) room (refusal LongPage k)).1 (ap (refusal LongPage) h.1, omega (arith, h.1, h.2)))),
  )

  -- 23 exactly if it is wrong; the place is the index.
  pub page_wrong : (k : ℕ) → (page_answer b w l room ≡ refused WrongListing k) ↔ (listing_answer b w l ≡ Ok (Wrong k))
  unfolding page_answer page_if
  page_wrong k = (wrong_if (page_length l) room (listing_answer b w l) k (refused_small b w l), (λ h. rw h refl))

  -- 1 to 11 exactly as checking the listing is refused.
  pub page_refused : (x : Refusal) → number_of x.fault ≤ 11 → (page_answer b w l room ≡ Err x) ↔ (listing_answer b w l ≡ Err x)
  unfolding page_answer page_if
  page_refused x small = (refused_if (page_length l) room (listing_answer b w l) x small, (λ h. rw h refl))

  -- No other number is given.
  pub page_numbers : (x : Refusal) → page_answer b w l room ≡ Err x → (number_of x.fault ≤ 11) ⊎ ((number_of x.fault ≡ 23) ⊎ (number_of x.fault ≡ 24))
  unfolding page_answer
  page_numbers x e = number_if (page_length l) room (listing_answer b w l) x (refused_small b w l) e
