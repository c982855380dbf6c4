-- Laws of the calls that read a text: the reply fits, and the promise determines the outcome.
use Prim.Native.Nat.{ℕ, min, ◌≤◌}
use mathlib.Core.Path.{◌≡◌, sym, ◌∙◌, ap, subst, subst⁻¹}
use mathlib.Core.List.{List, ◌++◌}
use mathlib.Core.Logic.{by_cases}
use native.Mathlib.Omega.{arith}
use native.Mathlib.Decide.{dec_lt}
use lib.ListN.{length, take, drop, length-take, drop_of_length-le}
use lib.Seq.{take_all}
use Rattle.engine.specs.Outcome.{Parsing, UnlessRefused}
use Rattle.engine.specs.declared.Answer.{Answer}
use Rattle.refusal.specs.Verdict.{Verdict}
use Rattle.refusal.specs.declared.Refusal.{Refusal}
use Rattle.meadowsink.specs.Viewer.{used_limit, Promise, UsedOutcome, CallOutcome}
use Rattle.parse.proofs.OutcomeLaws.{outcome_unique}
use Rattle.parse.specs.Outcome.{refusal, reading_by, Outcome}
use Rattle.reply.proofs.AnswersLaws.{own_read_fits}
use Rattle.reply.proofs.ReplyLaws.{refusal_fits}
use Rattle.reply.specs.Answers.{read_reply}
use Rattle.reply.specs.Reply.{refused, Fits}
use Rattle.reply.specs.declared.Reply.{Reply}
use Rattle.std.specs.Prelude.{Ok, Err}

pub after_fits : (s : Parsing) (c₀ l₀ : List ℕ) (r : Answer Refusal) (c l : List ℕ) (v : Verdict) → length l₀ ≤ used_limit → UnlessRefused v s c₀ l₀ r c l → Fits (read_reply refused r)
unfolding UnlessRefused read_reply
after_fits s c₀ l₀ r c l (Ok _) h a = own_read_fits s l₀ r l (omega arith) a.answer
after_fits s c₀ l₀ r c l (Err x) h a = subst⁻¹ (λ (y : Answer Refusal). Fits (read_reply refused y)) a.0 (refusal_fits x)

pub used_short : (l₀ : List ℕ) → length (take used_limit l₀) ≤ used_limit
used_short l₀ = omega (arith, length-take used_limit l₀)

pub read_fits : (b w c₀ l₀ : List ℕ) (r : Answer Refusal) (c l : List ℕ) → UsedOutcome (Outcome b w) c₀ l₀ r c l → Fits (read_reply refused r)
unfolding Outcome
read_fits b w c₀ l₀ r c l o =
    after_fits (reading_by b w) c₀ (take used_limit l₀) r c o.used (refusal b w c₀) (used_short l₀) o.outcome

-- ---- the part of the buffer that is used

module _ (l : List ℕ) (n : ℕ) (e : n ≡ min (length l) used_limit) where
  used_take : take n l ≡ take used_limit l
  used_take =
      by_cases (dec_lt used_limit (length l))
      (λ h. let same : n ≡ used_limit = omega arith in ap (λ (k : ℕ). take k l) same)
      (λ h. take_all n l (omega arith) ∙ sym (take_all used_limit l (omega arith)))

  used_drop : drop n l ≡ drop used_limit l
  used_drop =
      by_cases (dec_lt used_limit (length l))
      (λ h. let same : n ≡ used_limit = omega arith in ap (λ (k : ℕ). drop k l) same)
      (λ h. drop_of_length-le l {i = n} (omega arith) ∙ sym (drop_of_length-le l {i = used_limit} (omega arith)))

  pub used_length : n ≡ length (take n l)
  used_length = omega (arith, length-take n l)

  -- an operation that has it kept its promise of the first bytes
  pub used_outcome : (P : Promise) (c₀ : List ℕ) (r : Answer Refusal) (c used : List ℕ) → P c₀ (take n l) r c used → UsedOutcome P c₀ l r c (used ++ drop n l)
  used_outcome P c₀ r c used o =
      record { used = used; outcome = subst (λ (x : List ℕ). P c₀ x r c used) used_take o; listing = ap (λ (x : List ℕ). used ++ x) used_drop }

-- ---- the outcome

-- a promise that determines its outcome
abbrev pub Determines : Promise → Type 0
Determines P = (c₀ l₀ : List ℕ) (r r' : Answer Refusal) (c c' l l' : List ℕ) → P c₀ l₀ r c l → P c₀ l₀ r' c' l' → (r ≡ r') × (c ≡ c') × (l ≡ l')

module _ (P : Promise) (determined : Determines P) (c₀ l₀ : List ℕ) where
  used_unique : (r r' : Answer Refusal) (c c' l l' : List ℕ) → UsedOutcome P c₀ l₀ r c l → UsedOutcome P c₀ l₀ r' c' l' → (r ≡ r') × (c ≡ c') × (l ≡ l')
  used_unique r r' c c' l l' h k =
      let (answers, charts, parts) = determined c₀ (take used_limit l₀) r r' c c' h.used k.used h.outcome k.outcome in (
        answers,
        charts,
        h.listing ∙ ap (λ (part : List ℕ). part ++ drop used_limit l₀) parts ∙ sym k.listing,
      )

  -- For one input, two outcomes that meet the promise have the same number and the same bytes, whatever number is made of the reply.
  pub call_unique : (number : Reply → ℕ) (r r' : ℕ) (c c' l l' : List ℕ) → CallOutcome number P c₀ l₀ r c l → CallOutcome number P c₀ l₀ r' c' l' → (r ≡ r') × (c ≡ c') × (l ≡ l')
  call_unique number r r' c c' l l' h k =
      let (answers, charts, buffers) = used_unique h.answer k.answer c c' l l' h.outcome k.outcome in
      (h.is_number ∙ ap (λ (answer : Answer Refusal). number (read_reply refused answer)) answers ∙ sym k.is_number, charts, buffers)

pub viewer_unique : (number : Reply → ℕ) (b w c₀ l₀ : List ℕ) (r r' : ℕ) (c c' l l' : List ℕ) → CallOutcome number (Outcome b w) c₀ l₀ r c l → CallOutcome number (Outcome b w) c₀ l₀ r' c' l'
    → (r ≡ r') × (c ≡ c') × (l ≡ l')
viewer_unique number b w c₀ l₀ = call_unique (Outcome b w) (outcome_unique b w) c₀ l₀ number
