-- What reading answers with one is found right by the check of a listing.
use Prim.Native.Nat.{ℕ, ◌*◌, ◌≤◌, ◌<◌}
use mathlib.Core.Path.{◌≡◌, subst⁻¹}
use mathlib.Core.List.{List}
use native.Mathlib.Omega.{arith}
use lib.ListN.{get_or, take}
use Rattle.charset.specs.Set.{characters}
use Rattle.engine.specs.Outcome.{Answered}
use Rattle.engine.specs.declared.Answer.TheVariants.{One}
use Rattle.listing.specs.Answer.{byte_limit, listing_answer}
use Rattle.listing.specs.declared.Judgement.TheVariants.{Right}
use Rattle.std.specs.Prelude.{Ok}
use Rattle.parse.specs.Outcome.{Outcome}
use Rattle.listing.proofs.ReadingLaws.{reading_written}
use Rattle.theorems.proofs.AnsweredLaws.{answered_parts}

-- What parsing answers with one is found right, if it is short enough to be checked.
pub one_right : (b : List ℕ) → ((k : ℕ) → get_or b k 0 < characters) → (w c₀ l₀ : List ℕ) (n : ℕ) (c l : List ℕ) → Outcome b w c₀ l₀ (One n) c l → 2 * n ≤ byte_limit
    → listing_answer b w (take (2 * n) l) ≡ Ok Right
unfolding Answered
one_right b bytes w c₀ l₀ n c l outcome small =
    let (good, short, answered) = answered_parts b w c₀ l₀ (One n) c l (λ x e. let z : ◌≡◌ {A = ℕ} 0 1 = cc in absurd (omega arith)) outcome in
    let (t, only, count, enough, wrote) = answered in
    subst⁻¹ (λ (m : ℕ). listing_answer b w (take (2 * m) l) ≡ Ok Right) count
    (reading_written b bytes w l₀ l t good short only.holds (omega arith) wrote)
