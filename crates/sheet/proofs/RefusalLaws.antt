-- The refusals of a sheet and of a step: 1 to 9, 25 and 26, each exactly under its condition.
use Prim.Native.Nat.{ℕ, ◌≤◌, ◌<◌}
use mathlib.Core.Path.{◌≡◌, refl, sym, ◌∙◌, ap}
use mathlib.Core.List.{List, [], ◌∷◌}
use mathlib.Core.Logic.{◌↔◌, ◌⊎◌, inl, inr, ⊎_elim}
use native.Mathlib.Omega.{arith}
use lib.Dec.{ltb}
use lib.ListN.{length}
use borrow.Author.Tests.{ltb-true, ltb-false, lt-ltb, le-ltb}
use Rattle.refusal.proofs.VerdictLaws.{FirstIn, here, there, and_first, and_second, and_assoc, and_refused, order_first, refuse_accepted, refuse_case}
use Rattle.refusal.specs.Verdict.{and_then, Verdict, accepted, refused}
use Rattle.std.specs.Prelude.{Err}
use Rattle.priority.proofs.RefusalLaws.{checked_number}
use Rattle.priority.specs.Check.{checked}
use Rattle.split.specs.Lines.{lines}
use Rattle.sheet.specs.Refusals.{sheet_limit, sheet_too_long, summary_too_short, step_refusal, sheet_refusal}
use Rattle.refusal.specs.declared.Fault.TheVariants.{LongSheet, ShortSummary}
use Rattle.refusal.specs.declared.Refusal.{Refusal}
use Rattle.refusal.specs.Fault.{number_of}

-- ---- 25

module _ (s : List ℕ) where
  long_sheet : sheet_limit < length s → sheet_too_long s ≡ refused LongSheet (length s)
  unfolding sheet_too_long
  long_sheet h = rw (lt-ltb sheet_limit (length s) h) refl

  short_sheet : length s ≤ sheet_limit → sheet_too_long s ≡ accepted
  unfolding sheet_too_long
  short_sheet h = rw (le-ltb sheet_limit (length s) h) refl

  sheet_long : {r : Refusal} → sheet_too_long s ≡ Err r → (number_of r.fault ≡ 25) × (sheet_limit < length s) × (r.place ≡ length s)
  unfolding sheet_too_long
  sheet_long e =
      refuse_case (λ x. (number_of x.fault ≡ 25) × (sheet_limit < length s) × (x.place ≡ length s)) (ltb sheet_limit (length s)) LongSheet (length s) e
      (λ t. (refl, ltb-true sheet_limit (length s) t, refl))

  sheet_short : sheet_too_long s ≡ accepted → length s ≤ sheet_limit
  unfolding sheet_too_long
  sheet_short e = ltb-false sheet_limit (length s) (refuse_accepted _ LongSheet (length s) e)

-- ---- 26

module _ (s m : List ℕ) where
  short_summary : length m < length (lines s) → summary_too_short s m ≡ refused ShortSummary (length (lines s))
  unfolding summary_too_short
  short_summary h = rw (lt-ltb (length m) (length (lines s)) h) refl

  long_summary : length (lines s) ≤ length m → summary_too_short s m ≡ accepted
  unfolding summary_too_short
  long_summary h = rw (le-ltb (length m) (length (lines s)) h) refl

  summary_short : {r : Refusal} → summary_too_short s m ≡ Err r → (number_of r.fault ≡ 26) × (length m < length (lines s)) × (r.place ≡ length (lines s))
  unfolding summary_too_short
  summary_short e =
      refuse_case (λ x. (number_of x.fault ≡ 26) × (length m < length (lines s)) × (x.place ≡ length (lines s))) (ltb (length m) (length (lines s))) ShortSummary (length (lines s)) e
      (λ t. (refl, ltb-true (length m) (length (lines s)) t, refl))

  summary_long : summary_too_short s m ≡ accepted → length (lines s) ≤ length m
  unfolding summary_too_short
  summary_long e = ltb-false (length m) (length (lines s)) (refuse_accepted _ ShortSummary (length (lines s)) e)

-- ---- in order

module _ (b s : List ℕ) where
  -- what refuses a step
  pub step_grammar : {r : Refusal} → checked b ≡ Err r → step_refusal b s ≡ Err r
  unfolding step_refusal
  step_grammar e = rw e refl

  pub step_long : checked b ≡ accepted → sheet_limit < length s → step_refusal b s ≡ refused LongSheet (length s)
  unfolding step_refusal
  step_long e h = rw e (long_sheet s h)

  pub step_allowed : checked b ≡ accepted → length s ≤ sheet_limit → step_refusal b s ≡ accepted
  unfolding step_refusal
  step_allowed e h = rw e (short_sheet s h)

  pub step_checked : step_refusal b s ≡ accepted → checked b ≡ accepted
  unfolding step_refusal
  step_checked e = and_first (checked b) (sheet_too_long s) e

  module _ (m : List ℕ) where
    -- the refusals of a sheet are those of a step, and 26
    step_first : sheet_refusal b s m ≡ and_then (step_refusal b s) (summary_too_short s m)
    unfolding sheet_refusal step_refusal
    step_first = and_assoc (checked b) (sheet_too_long s) (summary_too_short s m)

    pub sheet_step : {r : Refusal} → step_refusal b s ≡ Err r → sheet_refusal b s m ≡ Err r
    sheet_step e = step_first ∙ rw e refl

    pub sheet_few : step_refusal b s ≡ accepted → length m < length (lines s) → sheet_refusal b s m ≡ refused ShortSummary (length (lines s))
    sheet_few e h = step_first ∙ rw e (short_summary s m h)

    pub sheet_allowed : step_refusal b s ≡ accepted → length (lines s) ≤ length m → sheet_refusal b s m ≡ accepted
    sheet_allowed e h = step_first ∙ rw e (long_summary s m h)

    pub sheet_room : sheet_refusal b s m ≡ accepted → (step_refusal b s ≡ accepted) × (length (lines s) ≤ length m)
    sheet_room e =
        let both = sym step_first ∙ e in
        (and_first (step_refusal b s) (summary_too_short s m) both, summary_long s m (and_second (step_refusal b s) (summary_too_short s m) both))

-- ---- each exactly under its condition

module _ (b s : List ℕ) where
  abbrev step_lines : List Verdict
  step_lines = checked b ∷ sheet_too_long s ∷ []

  step_first_line : {r : Refusal} → step_refusal b s ≡ Err r → FirstIn step_lines r
  unfolding step_refusal
  step_first_line e = order_first step_lines e

  step_by_grammar : {r : Refusal} → FirstIn step_lines r → number_of r.fault ≤ 9 → checked b ≡ Err r
  step_by_grammar (here e) small = e
  step_by_grammar (there a (here e)) small = absurd (omega (arith, (sheet_long s e).0))
  step_by_grammar (there a (there _ e)) small = elim e [ ]

  step_by_long : {r : Refusal} → FirstIn step_lines r → number_of r.fault ≡ 25 → (checked b ≡ accepted) × (sheet_limit < length s) × (r.place ≡ length s)
  step_by_long (here e) is = absurd (omega (arith, checked_number b e))
  step_by_long (there a (here e)) is = let h = sheet_long s e in (a, h.1, h.2)
  step_by_long (there a (there _ e)) is = elim e [ ]

  step_by_number : {r : Refusal} → FirstIn step_lines r → (number_of r.fault ≤ 9) ⊎ (number_of r.fault ≡ 25)
  step_by_number (here e) = inl (checked_number b e)
  step_by_number (there a (here e)) = inr (sheet_long s e).0
  step_by_number (there a (there _ e)) = elim e [ ]

  -- 1 to 9: the grammar's.
  pub refusal_grammar : (r : Refusal) → number_of r.fault ≤ 9 → (step_refusal b s ≡ Err r) ↔ (checked b ≡ Err r)
  refusal_grammar r small = ((λ e. step_by_grammar (step_first_line e) small), (λ e. step_grammar b s e))

  -- 25: the sheet is over its limit; the place is its length.
  pub refusal_long : (k : ℕ) → (step_refusal b s ≡ refused LongSheet k) ↔ ((checked b ≡ accepted) × (sheet_limit < length s) × (k ≡ length s))
  refusal_long k = ((λ e. step_by_long (step_first_line e) refl), (λ (e, long, place). step_long b s e long ∙ ap (λ (n : ℕ). refused LongSheet n) (sym place)))

  -- There is no other number.
  pub refusal_number : {r : Refusal} → step_refusal b s ≡ Err r → (number_of r.fault ≤ 9) ⊎ (number_of r.fault ≡ 25)
  refusal_number e = step_by_number (step_first_line e)

  -- None of them.
  pub refusal_none : (step_refusal b s ≡ accepted) ↔ ((checked b ≡ accepted) × (length s ≤ sheet_limit))
  unfolding step_refusal
  refusal_none = ((λ e. (step_checked b s e, sheet_short s (and_second (checked b) (sheet_too_long s) e))), (λ (e, short). step_allowed b s e short))

  -- Those of a sheet are the same, and 26: the summary is too short; the place is how many lines there are.
  module _ (m : List ℕ) where
    sheet_cases : {r : Refusal} → sheet_refusal b s m ≡ Err r → (step_refusal b s ≡ Err r) ⊎ ((step_refusal b s ≡ accepted) × (summary_too_short s m ≡ Err r))
    sheet_cases e = and_refused (step_refusal b s) (summary_too_short s m) (sym (step_first b s m) ∙ e)

    pub sheet_refusal_first : (r : Refusal) → number_of r.fault ≤ 25 → (sheet_refusal b s m ≡ Err r) ↔ (step_refusal b s ≡ Err r)
    sheet_refusal_first r small = (
      (λ e. ⊎_elim (λ h. h) (λ (a, h). absurd (omega (arith, (summary_short s m h).0))) (sheet_cases e)),
      (λ e. sheet_step b s m e),
    )

    pub sheet_refusal_few : (k : ℕ) → (sheet_refusal b s m ≡ refused ShortSummary k) ↔ ((step_refusal b s ≡ accepted) × (length m < length (lines s)) × (k ≡ length (lines s)))
    sheet_refusal_few k = (
      (λ e. ⊎_elim (λ h. absurd (⊎_elim (λ l. omega arith) (λ l. omega arith) (refusal_number h))) (λ (a, h). let few = summary_short s m h in (a, few.1, few.2)) (sheet_cases e)),
      (λ (a, few, place). sheet_few b s m a few ∙ ap (λ (n : ℕ). refused ShortSummary n) (sym place)),
    )

    pub sheet_refusal_number : {r : Refusal} → sheet_refusal b s m ≡ Err r → (number_of r.fault ≤ 9) ⊎ ((number_of r.fault ≡ 25) ⊎ (number_of r.fault ≡ 26))
    sheet_refusal_number e = ⊎_elim (λ h. ⊎_elim (λ l. inl l) (λ l. inr (inl l)) (refusal_number h)) (λ (a, h). inr (inr (summary_short s m h).0)) (sheet_cases e)
