-- An answer that is no refusal comes only if nothing was refused.
use Prim.Native.Nat.{ℕ}
use mathlib.Core.Path.{◌≡◌, refl}
use mathlib.Core.List.{List}
use Rattle.engine.specs.Outcome.{Answered, UnlessRefused}
use Rattle.engine.specs.declared.Answer.{Answer}
use Rattle.engine.specs.Refusals.{too_long}
use Rattle.flatten.specs.Reading.{Reading}
use Rattle.refusal.proofs.VerdictLaws.{and_first, and_second}
use Rattle.refusal.specs.Verdict.{Verdict, accepted, and_then}
use Rattle.refusal.specs.declared.Refusal.{Refusal}
use Rattle.std.specs.Prelude.{Ok, Err}
use Rattle.parse.specs.Outcome.{too_short, refusal, reading_by, Outcome}
use Rattle.priority.specs.Check.{checked}
use Rattle.engine.specs.declared.Answer.TheVariants.{Refused}

module _ (b w c₀ l₀ : List ℕ) (r : Answer Refusal) (c l : List ℕ) (other : (x : Refusal) → r ≡ Refused x → ⊥) where
  answered_accepted : (v : Verdict) → UnlessRefused v (reading_by b w) c₀ l₀ r c l → (v ≡ accepted) × Answered (Reading b w) l₀ r l
  unfolding UnlessRefused
  answered_accepted (Ok _) h = (refl, h.answer)
  answered_accepted (Err x) h = absurd (other x h.0)

  pub answered_parts : Outcome b w c₀ l₀ r c l → (checked b ≡ accepted) × (too_long w ≡ accepted) × Answered (Reading b w) l₀ r l
  unfolding Outcome refusal
  answered_parts h =
      let (accepted, answered) = answered_accepted (refusal b w c₀) h in
      let later = and_second (checked b) (and_then (too_long w) (too_short b w c₀)) accepted in
      (and_first (checked b) (and_then (too_long w) (too_short b w c₀)) accepted, and_first (too_long w) (too_short b w c₀) later, answered)
