-- The answers of checking a listing, each exactly under its condition: 10, 11, and right.
use Prim.Native.Nat.{ℕ, ◌%◌, ◌≤◌, ◌<◌}
use mathlib.Core.Path.{◌≡◌, refl, sym, ◌∙◌, ap}
use mathlib.Core.List.{List, [], ◌∷◌}
use mathlib.Core.Logic.{◌↔◌, ◌⊎◌, ⊎_elim}
use native.Mathlib.Omega.{arith}
use lib.ListN.{length, get_or}
use Rattle.charset.specs.Set.{characters}
use Rattle.chart.specs.Layout.{text_limit}
use Rattle.refusal.proofs.VerdictLaws.{and_first, and_second, FirstIn, here, there, order_first, unless_refused_lem}
use Rattle.refusal.specs.Verdict.{and_then, in_order, Verdict, accepted, refused, refusal}
use Rattle.listing.specs.Answer.{ListingAnswer, byte_limit, bad_listing, judged, listing_answer}
use Rattle.numbers.specs.Numbers.{numbers_of}
use Rattle.engine.specs.Refusals.{too_long}
use Rattle.flatten.specs.Reading.{Reading}
use Rattle.engine.proofs.RefusalsLaws.{long_text, short_text, text_short, text_long}
use Rattle.priority.proofs.RefusalLaws.{checked_number}
use Rattle.priority.specs.Check.{checked}
use Rattle.theory.specs.Tree.{Tree, listing}
use Rattle.listing.proofs.BadListingLaws.{odd_listing, long_listing, listing_accepted, listing_refused, listing_good}
use Rattle.listing.proofs.ReadingLaws.{refusals, listing_right}
use Rattle.listing.specs.declared.Judgement.TheVariants.{Right}
use Rattle.std.specs.Prelude.{Ok, Err}
use Rattle.refusal.specs.declared.Fault.TheVariants.{LongText, BadListing}
use Rattle.refusal.specs.declared.Refusal.{Refusal}
use Rattle.refusal.specs.Fault.{number_of}

-- ---- where a refusal comes from

-- A refusal is the first of the grammar's, 10 and 11.
pub refused_if : (b w l : List ℕ) (r : Refusal) → listing_answer b w l ≡ Err r
    → in_order (checked b ∷ too_long w ∷ bad_listing l ∷ []) ≡ Err r
unfolding listing_answer
refused_if b w l r e =
    ⊎_elim
    (λ h. h)
    (λ h. let z : ◌≡◌ {A = ListingAnswer} (Ok (judged b w l)) (Err r) = h.1 in let y : ◌≡◌ {A = ℕ} 0 1 = cc in absurd (omega arith))
    ((unless_refused_lem (refusals b w l) (Ok (judged b w l)) r).0 e)

module _ (b w l : List ℕ) where
  -- ---- the refusals, each under its condition

  -- the refusals in order
  abbrev lines : List Verdict
  lines = checked b ∷ too_long w ∷ bad_listing l ∷ []

  abbrev NotListing : Type 0
  NotListing = (length l % 2 ≡ 1) ⊎ (byte_limit < length l)

  bad_listing_lem : NotListing → bad_listing l ≡ refused BadListing (length l)
  bad_listing_lem = ⊎_elim (odd_listing l) (long_listing l)

  -- a refusal of the verdict is the answer
  refused_answer : (r : Refusal) → refusals b w l ≡ Err r → listing_answer b w l ≡ Err r
  unfolding listing_answer
  refused_answer r e = rw e refl

  by_ten : {r : Refusal} → FirstIn lines r → number_of r.fault ≡ 10 → (checked b ≡ accepted) × (text_limit < length w) × (r.place ≡ length w)
  by_ten (here e) ten = absurd (omega (arith, checked_number b e))
  by_ten (there a (here e)) ten = let h = text_long w e in (a, h.1, h.2)
  by_ten (there a (there c (here e))) ten = absurd (omega (arith, (listing_refused l e).0))
  by_ten (there a (there c (there _ e))) ten = elim e [ ]

  by_eleven : {r : Refusal} → FirstIn lines r → number_of r.fault ≡ 11 → (checked b ≡ accepted) × (length w ≤ text_limit) × NotListing × (r.place ≡ length l)
  by_eleven (here e) eleven = absurd (omega (arith, checked_number b e))
  by_eleven (there a (here e)) eleven = absurd (omega (arith, (text_long w e).0))
  by_eleven (there a (there c (here e))) eleven = let h = listing_refused l e in (a, text_short w c, h.1, h.2)
  by_eleven (there a (there c (there _ e))) eleven = elim e [ ]

  by_grammar : {r : Refusal} → FirstIn lines r → number_of r.fault ≤ 9 → checked b ≡ Err r
  by_grammar (here e) small = e
  by_grammar (there a (here e)) small = absurd (omega (arith, (text_long w e).0))
  by_grammar (there a (there c (here e))) small = absurd (omega (arith, (listing_refused l e).0))
  by_grammar (there a (there c (there _ e))) small = elim e [ ]

  pub small_number : {r : Refusal} → FirstIn lines r → number_of r.fault ≤ 11
  small_number (here e) = omega (arith, checked_number b e)
  small_number (there a (here e)) = omega (arith, (text_long w e).0)
  small_number (there a (there c (here e))) = omega (arith, (listing_refused l e).0)
  small_number (there a (there c (there _ e))) = elim e [ ]

  -- No number but 1 to 11 is given.
  pub refused_small : (r : Refusal) → listing_answer b w l ≡ Err r → number_of r.fault ≤ 11
  refused_small r e = small_number (order_first lines (refused_if b w l r e))

  -- 1 to 9: as the grammar is refused.
  pub grammar_exactly : (r : Refusal) → number_of r.fault ≤ 9 → (listing_answer b w l ≡ Err r) ↔ (checked b ≡ Err r)
  grammar_exactly r small = ((λ e. by_grammar (order_first lines (refused_if b w l r e)) small), (λ h. refused_answer r (rw h refl)))

  -- 10: the text is over its limit; the place is its length.
  pub ten_exactly : (k : ℕ) → (listing_answer b w l ≡ refused LongText k) ↔ ((checked b ≡ accepted) × (text_limit < length w) × (k ≡ length w))
  ten_exactly k = (
    (λ e. by_ten (order_first lines (refused_if b w l (refusal LongText k) e)) refl),
    (λ h. refused_answer (refusal LongText (length w)) (rw (h.0, long_text w h.1) refl) ∙ ap (λ (n : ℕ). refused LongText n) (sym h.2)),
  )

  -- 11: the listing has an odd byte count or one over the limit; the place is the byte count.
  pub eleven_exactly : (k : ℕ) → (listing_answer b w l ≡ refused BadListing k) ↔ ((checked b ≡ accepted) × (length w ≤ text_limit) × NotListing × (k ≡ length l))
  eleven_exactly k = (
    (λ e. by_eleven (order_first lines (refused_if b w l (refusal BadListing k) e)) refl),
    (λ h. refused_answer (refusal BadListing (length l)) (rw (h.0, short_text w h.1, bad_listing_lem h.2) refl) ∙ ap (λ (n : ℕ). refused BadListing n) (sym h.3)),
  )

  -- Right: nothing is refused, and the numbers are the listing of a reading.
  pub right_exactly : ((k : ℕ) → get_or b k 0 < characters)
      → (listing_answer b w l ≡ Ok Right)
      ↔ ((checked b ≡ accepted) × (length w ≤ text_limit) × (length l % 2 ≡ 0) × (length l ≤ byte_limit) × ((t : Tree) × Reading b w t × (listing t ≡ numbers_of l)))
  right_exactly bytes = (
    (λ e. let (free, found) = (listing_right b bytes w l).0 e in
        let later = and_second (checked b) (and_then (too_long w) (bad_listing l)) free in
        let good = listing_good l (and_second (too_long w) (bad_listing l) later) in
        (and_first (checked b) (and_then (too_long w) (bad_listing l)) free, text_short w (and_first (too_long w) (bad_listing l) later), good.0, good.1, found)),
    (λ (e, short, even, few, found). (listing_right b bytes w l).1 (rw (e, short_text w short) (listing_accepted l even few), found)),
  )
