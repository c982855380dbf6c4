-- What an outcome of parsing says: refusals 1 to 9, 10 and 20 exactly under their conditions, and otherwise the answer over the grammar's own trees.
use Prim.Native.Nat.{ℕ, ◌*◌, ◌≤◌, ◌<◌}
use mathlib.Core.Path.{◌≡◌, refl, sym, ◌∙◌, subst, ap}
use mathlib.Core.List.{List}
use mathlib.Core.Logic.{◌↔◌, ◌⊎◌, inl, inr, ⊎_elim}
use native.Mathlib.Omega.{arith}
use lib.ListN.{length}
use Rattle.chart.specs.Layout.{text_limit}
use Rattle.engine.proofs.AnswerLaws.{one_exactly, refused_is_long}
use Rattle.engine.specs.Outcome.{Answered, Parsed, UnlessRefused}
use Rattle.engine.specs.declared.Answer.{Answer}
use Rattle.refusal.specs.Verdict.{Verdict, accepted, refusal as refusal_at}
use Rattle.parse.proofs.RefusalLaws.{refusal_grammar, refusal_ten, refusal_twenty, refusal_text, Readable, readable_accepted}
use Rattle.parse.specs.Outcome.{needed, refusal, Outcome, reading_by}
use Rattle.flatten.specs.Reading.{Reading}
use Rattle.priority.specs.Check.{checked}
use Rattle.engine.specs.declared.Answer.TheVariants.{One, Refused}
use Rattle.std.specs.Prelude.{Ok, Err}
use Rattle.engine.proofs.UniqueLaws.{same_refused}
use Rattle.refusal.specs.declared.Fault.TheVariants.{LongText, ShortChart}
use Rattle.refusal.specs.declared.Refusal.{Refusal}
use Rattle.refusal.specs.Fault.{number_of}

refused_one : {A : Type 0} {x : Refusal} {n : ℕ} → ◌≡◌ {A = Answer Refusal} (Refused x) (One n) → A
refused_one e = let z : ◌≡◌ {A = ℕ} 0 1 = cc in absurd (omega arith)

same : {x y : Refusal} → ◌≡◌ {A = Answer Refusal} (Refused x) (Refused y) → ◌≡◌ {A = Verdict} (Err x) (Err y)
same e = ap (λ (z : Refusal). Err z) (same_refused e)

module _ (b w c₀ l₀ : List ℕ) (r : Answer Refusal) (c l : List ℕ) (o : Outcome b w c₀ l₀ r c l) where
  -- ---- by the verdict before parsing

  -- a refusal is the answer, and nothing is changed
  pub refused_outcome : (x : Refusal) → refusal b w c₀ ≡ Err x → (r ≡ Refused x) × (c ≡ c₀) × (l ≡ l₀)
  unfolding Outcome UnlessRefused
  refused_outcome x e = subst (λ (v : Verdict). UnlessRefused v (reading_by b w) c₀ l₀ r c l) e o

  -- otherwise chart and answer are those of the grammar's own trees
  pub accepted_outcome : refusal b w c₀ ≡ accepted → Parsed (reading_by b w) c₀ l₀ r c l
  unfolding Outcome UnlessRefused
  accepted_outcome e = subst (λ (v : Verdict). UnlessRefused v (reading_by b w) c₀ l₀ r c l) e o

  pub parsed_outcome : Readable b w c₀ → Parsed (reading_by b w) c₀ l₀ r c l
  parsed_outcome h = accepted_outcome (readable_accepted b w c₀ h)

  by_verdict : ((x : Refusal) × (refusal b w c₀ ≡ Err x) × (r ≡ Refused x)) ⊎ Answered (Reading b w) l₀ r l
  by_verdict = cases (refusal b w c₀) refl
    where
      cases : (v : Verdict) → refusal b w c₀ ≡ v → ((x : Refusal) × (refusal b w c₀ ≡ Err x) × (r ≡ Refused x)) ⊎ Answered (Reading b w) l₀ r l
      cases (Ok _) e = inr (accepted_outcome e).answer
      cases (Err x) e = inl (x, e, (refused_outcome x e).0)

  -- ---- refusals

  -- A refusal with a number other than 22 is the verdict's, and nothing is changed.
  refused_exactly : (x : Refusal) → (number_of x.fault ≡ 22 → ⊥) → (r ≡ Refused x) ↔ (refusal b w c₀ ≡ Err x)
  refused_exactly x other = (
    (λ e. ⊎_elim (λ (y, v, a). v ∙ same (sym a ∙ e)) (λ a. absurd (other (ap number_of (refused_is_long (Reading b w) l₀ r l a x e)))) by_verdict),
    (λ h. (refused_outcome x h).0),
  )

  pub refused_unchanged : (x : Refusal) → (number_of x.fault ≡ 22 → ⊥) → r ≡ Refused x → (c ≡ c₀) × (l ≡ l₀)
  refused_unchanged x other e = let a = refused_outcome x ((refused_exactly x other).0 e) in (a.1, a.2)

  -- 1 to 9: the grammar's.
  pub grammar_exactly : (x : Refusal) → number_of x.fault ≤ 9 → (r ≡ Refused x) ↔ (checked b ≡ Err x)
  grammar_exactly x small =
      let answer = refused_exactly x (λ e. omega (arith, small)) in
      let line = refusal_grammar b w c₀ x small in
      ((λ e. line.0 (answer.0 e)), (λ h. answer.1 (line.1 h)))

  -- 10: the text is over its limit; the place is its length.
  pub ten_exactly : (k : ℕ) → (r ≡ Refused (refusal_at LongText k)) ↔ ((checked b ≡ accepted) × (text_limit < length w) × (k ≡ length w))
  ten_exactly k =
      let answer = refused_exactly (refusal_at LongText k) (λ e. omega arith) in
      let line = refusal_ten b w c₀ k in
      ((λ e. line.0 (answer.0 e)), (λ h. answer.1 (line.1 h)))

  -- Where the grammar is accepted, 10, 20 and 22 are left.
  pub text_numbers : checked b ≡ accepted → (x : Refusal) → r ≡ Refused x → (number_of x.fault ≡ 10) ⊎ ((number_of x.fault ≡ 20) ⊎ (number_of x.fault ≡ 22))
  text_numbers a x e =
      ⊎_elim
      (λ (y, v, is). ⊎_elim (λ ten. inl ten) (λ twenty. inr (inl twenty)) (refusal_text b w c₀ a (v ∙ same (sym is ∙ e))))
      (λ h. inr (inr (ap number_of (refused_is_long (Reading b w) l₀ r l h x e))))
      by_verdict

  -- 20: the chart is too short; the place is its need.
  pub twenty_exactly : (k : ℕ) → (r ≡ Refused (refusal_at ShortChart k)) ↔ ((checked b ≡ accepted) × (length w ≤ text_limit) × (k ≡ needed b (length w)) × (length c₀ < k))
  twenty_exactly k =
      let answer = refused_exactly (refusal_at ShortChart k) (λ e. omega arith) in
      let line = refusal_twenty b w c₀ k in
      ((λ e. line.0 (answer.0 e)), (λ h. answer.1 (line.1 h)))

  -- One comes only with room for its listing.
  pub one_fits : (n : ℕ) → r ≡ One n → 2 * n ≤ length l₀
  one_fits n e = ⊎_elim (λ (y, v, a). refused_one (sym a ∙ e)) (λ a. ((one_exactly (Reading b w) l₀ r l a n).0 e).3) by_verdict
