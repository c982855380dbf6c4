-- 11, exactly under its condition: an odd byte count, or one over the limit.
use Prim.Native.Nat.{ℕ, ◌%◌, ◌≤◌, ◌<◌}
use mathlib.Core.Path.{◌≡◌, refl}
use mathlib.Core.Bool.{Bool, ◌||◌, or-true}
use mathlib.Core.List.{List}
use mathlib.Core.Logic.{◌⊎◌, inl, inr, ⊎_elim}
use native.Mathlib.Omega.{arith}
use lib.Dec.{ltb, eqb}
use lib.ListN.{length}
use borrow.Author.Tests.{ltb-true, eqb-true, ltb-false, eqb-false, lt-ltb, le-ltb, eq-eqb, ne_eqb}
use Rattle.common.proofs.BoolLaws.{or_cases, or_first_false, or_second_false}
use Rattle.refusal.proofs.VerdictLaws.{refuse_case, refuse_accepted}
use Rattle.std.specs.Prelude.{Err}
use Rattle.refusal.specs.Verdict.{accepted, refused}
use Rattle.listing.specs.Answer.{byte_limit, bad_listing}
use Rattle.refusal.specs.declared.Fault.TheVariants.{BadListing}
use Rattle.refusal.specs.declared.Refusal.{Refusal}
use Rattle.refusal.specs.Fault.{number_of}

module _ (l : List ℕ) where
  abbrev odd : Bool
  odd = eqb (length l % 2) 1

  abbrev long : Bool
  long = ltb byte_limit (length l)

  pub odd_listing : length l % 2 ≡ 1 → bad_listing l ≡ refused BadListing (length l)
  unfolding bad_listing
  odd_listing h = rw (eq-eqb (length l % 2) 1 h) refl

  pub long_listing : byte_limit < length l → bad_listing l ≡ refused BadListing (length l)
  unfolding bad_listing
  long_listing h = rw (lt-ltb byte_limit (length l) h, or-true odd) refl

  -- an even byte count within the limit is not refused
  pub listing_accepted : length l % 2 ≡ 0 → length l ≤ byte_limit → bad_listing l ≡ accepted
  unfolding bad_listing
  listing_accepted even short = rw (ne_eqb (length l % 2) 1 (λ e. omega arith), le-ltb byte_limit (length l) short) refl

  pub listing_refused : {r : Refusal} → bad_listing l ≡ Err r → (number_of r.fault ≡ 11) × ((length l % 2 ≡ 1) ⊎ (byte_limit < length l)) × (r.place ≡ length l)
  unfolding bad_listing
  listing_refused e =
      refuse_case (λ x. (number_of x.fault ≡ 11) × ((length l % 2 ≡ 1) ⊎ (byte_limit < length l)) × (x.place ≡ length l)) (odd || long) BadListing (length l) e
      (λ t. (refl, ⊎_elim (λ o. inl (eqb-true (length l % 2) 1 o)) (λ o. inr (ltb-true byte_limit (length l) o)) (or_cases odd long t), refl))

  pub listing_good : bad_listing l ≡ accepted → (length l % 2 ≡ 0) × (length l ≤ byte_limit)
  unfolding bad_listing
  listing_good e =
      let free = refuse_accepted (odd || long) BadListing (length l) e in
      (omega (arith, eqb-false (length l % 2) 1 (or_first_false odd long free)), ltb-false byte_limit (length l) (or_second_false odd long free))
