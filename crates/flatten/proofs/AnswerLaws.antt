-- Writing a character class grammar: written and 21, each exactly under its condition.
use Prim.Native.Nat.{ℕ, ◌≤◌, ◌<◌}
use mathlib.Core.Path.{◌≡◌, ap}
use mathlib.Core.List.{List}
use mathlib.Core.Logic.{◌↔◌, ◌⊎◌, inl, inr, ⊎_elim}
use native.Mathlib.Omega.{arith}
use lib.ListN.{length}
use Rattle.flatten.specs.Flat.{flat_grammar}
use Rattle.ccg.specs.Text.{grammar_text}
use Rattle.flatten.specs.Answer.{flat_answer}
use Rattle.refusal.proofs.VerdictLaws.{unless_answer, unless_refused_lem}
use Rattle.std.specs.Prelude.{Ok, Err}
use Rattle.refusal.specs.Fault.{number_of}
use Rattle.refusal.specs.Verdict.{accepted, refusal, refused}
use Rattle.refusal.specs.declared.Fault.TheVariants.{LongFlat}
use Rattle.refusal.specs.declared.Refusal.{Refusal}
use Rattle.priority.proofs.RefusalLaws.{checked_number}
use Rattle.priority.specs.Check.{checked}
use Rattle.writing.proofs.AnswerLaws.{written_exactly, refused_exactly}
use Rattle.writing.specs.Answer.{fitted}

module _ (b : List ℕ) (room : ℕ) where
  abbrev needed : ℕ
  needed = length (grammar_text (flat_grammar b))

  -- Written exactly if the text fits, with its length.
  pub flat_fits : (n : ℕ) → (flat_answer b room ≡ Ok n) ↔ ((checked b ≡ accepted) × (n ≡ needed) × (n ≤ room))
  unfolding flat_answer
  flat_fits n =
      let answer = unless_answer (checked b) (fitted LongFlat needed room) n in
      let fits = written_exactly LongFlat needed room n in (
        (λ a. let (e, o) = answer.0 a in let (count, short) = fits.0 o in (e, count, short)),
        (λ (e, count, short). answer.1 (e, fits.1 (count, short))),
      )

  -- A refusal exactly where the grammar has it, or 21 for a text longer than the buffer, with its length.
  pub flat_refused : (r : Refusal) → (flat_answer b room ≡ Err r) ↔ ((checked b ≡ Err r) ⊎ ((checked b ≡ accepted) × (r ≡ refusal LongFlat needed) × (room < needed)))
  unfolding flat_answer
  flat_refused r =
      let answer = unless_refused_lem (checked b) (fitted LongFlat needed room) r in
      let long = refused_exactly LongFlat needed room r in (
        (λ a. ⊎_elim (λ x. inl x) (λ (e, o). let (is, longer) = long.0 o in inr (e, is, longer)) (answer.0 a)),
        (λ h. answer.1 (⊎_elim (λ x. inl x) (λ (e, is, longer). inr (e, long.1 (is, longer))) h)),
      )

  -- 21 exactly if the text of an accepted grammar is longer than the buffer.
  pub flat_too_long : (k : ℕ) → (flat_answer b room ≡ refused LongFlat k) ↔ ((checked b ≡ accepted) × (k ≡ needed) × (room < k))
  flat_too_long k = (
    (λ a. ⊎_elim (λ x. absurd (omega (arith, checked_number b x))) (λ x. let place = ap (λ (r : Refusal). r.place) x.1 in (x.0, place, omega (arith, x.2, place))) ((flat_refused (refusal LongFlat k)).0 a)),
    (λ h. (flat_refused (refusal LongFlat k)).1 (inr (h.0, ap (refusal LongFlat) h.1, omega (arith, h.1, h.2)))),
  )

  -- 1 to 9 exactly as the grammar is refused.
  pub flat_grammar_lem : (r : Refusal) → number_of r.fault ≤ 9 → (flat_answer b room ≡ Err r) ↔ (checked b ≡ Err r)
  flat_grammar_lem r small = (
    (λ a. ⊎_elim (λ x. x) (λ x. absurd (omega (arith, small, ap (λ (s : Refusal). number_of s.fault) x.1))) ((flat_refused r).0 a)),
    (λ x. (flat_refused r).1 (inl x)),
  )
