-- What a refusal, or none, makes of an outcome.
use Prim.Native.Nat.{ℕ}
use mathlib.Core.Path.{◌≡◌, refl, sym, ◌∙◌}
use mathlib.Core.List.{List}
use Rattle.engine.proofs.UniqueLaws.{parsed_unique}
use Rattle.engine.specs.Outcome.{Parsing, Parsed, UnlessRefused}
use Rattle.engine.specs.declared.Answer.{Answer}
use Rattle.refusal.specs.Verdict.{Verdict, accepted}
use Rattle.engine.specs.declared.Answer.TheVariants.{Refused}
use Rattle.std.specs.Prelude.{Ok, Err}
use Rattle.refusal.specs.declared.Refusal.{Refusal}

module _ (s : Parsing) (c₀ l₀ : List ℕ) where
  pub outcome_refused : (v : Verdict) (r : Refusal) → v ≡ Err r → UnlessRefused v s c₀ l₀ (Refused r) c₀ l₀
  unfolding UnlessRefused
  outcome_refused v r e = rw e (refl, refl, refl)

  pub outcome_accepted : (v : Verdict) (r : Answer Refusal) (c l : List ℕ) → v ≡ accepted → Parsed s c₀ l₀ r c l → UnlessRefused v s c₀ l₀ r c l
  unfolding UnlessRefused
  outcome_accepted v r c l e h = rw e h

  -- for one input and verdict, two outcomes have the same answer and the same bytes
  pub unless_unique : (v : Verdict) (r r' : Answer Refusal) (c c' l l' : List ℕ) → UnlessRefused v s c₀ l₀ r c l → UnlessRefused v s c₀ l₀ r' c' l' → (r ≡ r') × (c ≡ c') × (l ≡ l')
  unfolding UnlessRefused
  unless_unique (Ok _) r r' c c' l l' h k = parsed_unique s c₀ l₀ r r' c c' l l' h k
  unless_unique (Err x) r r' c c' l l' h k = (h.0 ∙ sym k.0, h.1 ∙ sym k.1, h.2 ∙ sym k.2)
