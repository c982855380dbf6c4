-- When a comparison is refused (02, [9]), as conditions: by what checking each of the two listings answers.
use Rattle.std.specs.Prelude.{ℕ, ◌≡◌, Ok, Err}
use Rattle.listing.specs.Answer.{ListingAnswer}
use Rattle.listing.specs.declared.Judgement.TheVariants.{Right, Wrong}
use Rattle.refusal.specs.Verdict.{refusal}
use Rattle.refusal.specs.declared.Fault.TheVariants.{WrongPair}
use Rattle.refusal.specs.declared.Refusal.{Refusal}

-- The check of a listing answered; it was not refused.
abbrev pub Answered : ListingAnswer → Type 0
Answered a = (r : Refusal) → a ≡ Err r → ⊥

-- A line each: if checking the first listing answers a and checking the second answers c, this refusal is given.
-- What is refused there is refused here, the first listing before the second; then 29.
pub data ComparisonRefused (a c : ListingAnswer) : Refusal → Type 0 where
  first : {r : Refusal} → a ≡ Err r → ComparisonRefused a c r
  second : {r : Refusal} → Answered a → c ≡ Err r → ComparisonRefused a c r
  first_wrong : {i : ℕ} → a ≡ Ok (Wrong i) → Answered c → ComparisonRefused a c (refusal WrongPair 0)
  second_wrong : {i : ℕ} → a ≡ Ok Right → c ≡ Ok (Wrong i) → ComparisonRefused a c (refusal WrongPair 1)
