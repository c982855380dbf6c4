-- Writing a text into a lent buffer: written and refused, each exactly under its condition.
use Prim.Native.Nat.{ℕ, ◌≤◌, ◌<◌}
use mathlib.Core.Logic.{◌↔◌, by_cases}
use mathlib.Core.Path.{◌≡◌, refl, sym, ◌∙◌, ap}
use native.Mathlib.Decide.{dec_lt}
use native.Mathlib.Omega.{arith}
use borrow.Author.Tests.{le-leb, lt-leb}
use Rattle.std.specs.Prelude.{Result, Ok, Err}
use Rattle.refusal.proofs.VerdictLaws.{same_refusal}
use Rattle.refusal.specs.Verdict.{refusal, refused}
use Rattle.refusal.specs.declared.Fault.{Fault}
use Rattle.refusal.specs.declared.Refusal.{Refusal}
use Rattle.writing.specs.Answer.{fitted}

-- ---- answers that are the same, or not

abbrev Answer : Type 0
Answer = Result ℕ Refusal

pub refused_written : {A : Type 0} (m : ℕ) (r : Refusal) → ◌≡◌ {A = Answer} (Err r) (Ok m) → A
refused_written m r e = let z : ◌≡◌ {A = ℕ} 0 1 = cc in absurd (omega arith)

same_written : (n m : ℕ) → ◌≡◌ {A = Answer} (Ok n) (Ok m) → n ≡ m
same_written n m e = cc

-- ---- does it fit?

module _ (fault : Fault) (needed room : ℕ) where
  fits_answer : needed ≤ room → fitted fault needed room ≡ Ok needed
  unfolding fitted
  fits_answer h = rw (le-leb needed room h) refl

  long_answer : room < needed → fitted fault needed room ≡ refused fault needed
  unfolding fitted
  long_answer h = rw (lt-leb needed room h) refl

  -- written exactly if it fits, with its length
  pub written_exactly : (n : ℕ) → (fitted fault needed room ≡ Ok n) ↔ ((n ≡ needed) × (n ≤ room))
  written_exactly n = (
    (λ e. by_cases (dec_lt room needed)
        (λ h. refused_written n (refusal fault needed) (sym (long_answer h) ∙ e))
        (λ h. let same = same_written needed n (sym (fits_answer (omega arith)) ∙ e) in (sym same, omega arith))),
    (λ h. fits_answer (omega (arith, h.0, h.1)) ∙ ap (λ (k : ℕ). Ok k) (sym h.0)),
  )

  -- refused exactly if it is longer than the buffer, and the place is its length
  pub refused_exactly : (r : Refusal) → (fitted fault needed room ≡ Err r) ↔ ((r ≡ refusal fault needed) × (room < needed))
  refused_exactly r = (
    (λ e. by_cases (dec_lt room needed)
        (λ h. (same_refusal {B = ℕ} (sym e ∙ long_answer h), h))
        (λ h. refused_written needed r (sym e ∙ fits_answer (omega arith)))),
    (λ h. long_answer h.1 ∙ ap (λ (s : Refusal). Err s) (sym h.0)),
  )
