-- The promise of parsing, by the grammar's verdict; and that it determines the outcome.
use Prim.Native.Nat.{ℕ}
use mathlib.Core.Path.{◌≡◌, refl, subst}
use mathlib.Core.List.{List, [], ◌∷◌}
use Rattle.engine.proofs.OutcomeLaws.{unless_unique}
use Rattle.engine.specs.Outcome.{UnlessRefused}
use Rattle.engine.specs.declared.Answer.{Answer}
use Rattle.engine.specs.Refusals.{too_long}
use Rattle.refusal.specs.Verdict.{in_order, Verdict, accepted}
use Rattle.parse.specs.Outcome.{too_short, reading_by, refusal, Outcome, AcceptedOutcome}
use Rattle.priority.specs.Check.{checked}
use Rattle.std.specs.Prelude.{Err}
use Rattle.refusal.specs.declared.Refusal.{Refusal}
use Rattle.engine.specs.declared.Answer.TheVariants.{Refused}

module _ (b w c₀ l₀ : List ℕ) where
  pub grammar_refused : (r : Refusal) → checked b ≡ Err r → Outcome b w c₀ l₀ (Refused r) c₀ l₀
  unfolding Outcome refusal UnlessRefused
  grammar_refused r e = rw e (refl, refl, refl)

  pub grammar_accepted : (r : Answer Refusal) (c l : List ℕ) → checked b ≡ accepted
      → AcceptedOutcome b w c₀ l₀ r c l → Outcome b w c₀ l₀ r c l
  unfolding Outcome AcceptedOutcome refusal
  grammar_accepted r c l e h = rw e h

  pub accepted_grammar : (r : Answer Refusal) (c l : List ℕ) → checked b ≡ accepted
      → Outcome b w c₀ l₀ r c l → AcceptedOutcome b w c₀ l₀ r c l
  unfolding Outcome AcceptedOutcome refusal
  accepted_grammar r c l e h = subst (λ (v : Verdict). UnlessRefused (in_order (v ∷ too_long w ∷ too_short b w c₀ ∷ [])) (reading_by b w) c₀ l₀ r c l) e h

  -- For one input, two outcomes that meet the promise have the same answer and the same bytes.
  pub outcome_unique : (r r' : Answer Refusal) (c c' l l' : List ℕ) → Outcome b w c₀ l₀ r c l → Outcome b w c₀ l₀ r' c' l' → (r ≡ r') × (c ≡ c') × (l ≡ l')
  unfolding Outcome
  outcome_unique r r' c c' l l' h k = unless_unique (reading_by b w) c₀ l₀ (refusal b w c₀) r r' c c' l l' h k
