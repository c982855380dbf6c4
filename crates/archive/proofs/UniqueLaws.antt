-- The promise determines the outcome: for one input, two outcomes that meet it have the same answer and the same bytes.
use Prim.Native.Nat.{ℕ}
use mathlib.Core.Bool.{Bool}
use mathlib.Core.List.{List}
use mathlib.Core.Logic.{◌⊎◌, inl, inr}
use mathlib.Core.Path.{◌≡◌, sym, ◌∙◌, ap, subst⁻¹}
use Rattle.archive.specs.Outcome.{trees_of, flat_refusal, FlatOutcome, GrammarOutcome}
use Rattle.ccg.specs.Ccg.{Line}
use Rattle.engine.proofs.OutcomeLaws.{unless_unique}
use Rattle.form.proofs.FormLaws.{longest_unique, says_unique}
use Rattle.form.specs.Form.{Says, NotInForm}
use Rattle.engine.specs.declared.Answer.{Answer}
use Rattle.refusal.specs.Verdict.{refusal}
use Rattle.refusal.specs.declared.Fault.TheVariants.{Form}
use Rattle.refusal.specs.declared.Refusal.{Refusal}
use Rattle.engine.specs.declared.Answer.TheVariants.{Refused}

module _ (flat : List ℕ) (roots : List Bool) (w c₀ l₀ : List ℕ) (r r' : Answer Refusal) (c c' l l' : List ℕ) where
  -- not in the form
  abbrev Outside : Answer Refusal → (c l : List ℕ) → Type 0
  Outside a c l = (place : ℕ) × NotInForm flat place × (a ≡ Refused (refusal Form place)) × (c ≡ c₀) × (l ≡ l₀)

  -- in it
  abbrev Inside : Answer Refusal → (c l : List ℕ) → Type 0
  Inside a c l = (g : List Line) × Says flat g × GrammarOutcome g roots w c₀ l₀ a c l

  same : Outside r c l ⊎ Inside r c l → Outside r' c' l' ⊎ Inside r' c' l' → (r ≡ r') × (c ≡ c') × (l ≡ l')
  same (inl (k, h, e, ec, el)) (inl (j, i, f, fc, fl)) = (e ∙ ap (λ (n : ℕ). Refused (refusal Form n)) (longest_unique flat k j h.longest i.longest) ∙ sym f, ec ∙ sym fc, el ∙ sym fl)
  same (inl (k, h, e, ec, el)) (inr (g, says, u)) = absurd (h.outside (g, says))
  same (inr (g, says, u)) (inl (k, h, e, ec, el)) = absurd (h.outside (g, says))
  same (inr (g, says, u)) (inr (g', says', v)) =
      let grammars = says_unique flat g g' says says' in
      unless_unique (trees_of g roots w) c₀ l₀ (flat_refusal g roots w c₀) r r' c c' l l' u
      (subst⁻¹ (λ (x : List Line). GrammarOutcome x roots w c₀ l₀ r' c' l') grammars v)

  pub flat_unique : FlatOutcome flat roots w c₀ l₀ r c l → FlatOutcome flat roots w c₀ l₀ r' c' l' → (r ≡ r') × (c ≡ c') × (l ≡ l')
  unfolding FlatOutcome
  flat_unique h k = same h k
