-- The promises of a sheet and of a step, by the verdict before any line is read; and that they determine the outcome.
use Prim.Native.Nat.{ℕ, ◌≤◌, ◌<◌}
use mathlib.Core.Path.{◌≡◌, refl, sym, ◌∙◌, ap}
use mathlib.Core.Bool.{Bool, true, false}
use mathlib.Core.List.{List}
use lib.Dec.{ltb}
use lib.ListN.{length}
use borrow.Author.Tests.{lt-ltb, le-ltb}
use Rattle.refusal.specs.Verdict.{Verdict, accepted}
use Rattle.sheet.proofs.LineLaws.{line_unique}
use Rattle.sheet.proofs.SummedLaws.{summed_unique}
use Rattle.split.specs.Lines.{lines, line_at, next_start}
use Rattle.sheet.specs.Outcome.{LineBy, Summed, SheetIf, SheetOutcome, StepFrom, StepIf, StepOutcome, Step}
use Rattle.sheet.specs.Refusals.{step_refusal, sheet_refusal}
use Rattle.std.specs.Prelude.{Some, None, Result, Ok, Err}
use Rattle.refusal.specs.declared.Refusal.{Refusal}

-- ---- the sheet

module _ (b s c₀ m₀ : List ℕ) where
  pub sheet_refused : (x : Refusal) → sheet_refusal b s m₀ ≡ Err x → SheetOutcome b s c₀ m₀ (Err x) c₀ m₀
  unfolding SheetOutcome SheetIf
  sheet_refused x e = rw e (refl, refl, refl)

  pub sheet_read : (count : ℕ) (c m : List ℕ) → sheet_refusal b s m₀ ≡ accepted → count ≡ length (lines s) → Summed (LineBy b) s c₀ m₀ c m → SheetOutcome b s c₀ m₀ (Ok count) c m
  unfolding SheetOutcome SheetIf
  sheet_read count c m e same h = rw e (ap (λ (k : ℕ). Ok k) same, h)

  if_unique : (v : Verdict) (r r' : Result ℕ Refusal) (c c' m m' : List ℕ) → SheetIf v b s c₀ m₀ r c m → SheetIf v b s c₀ m₀ r' c' m' → (r ≡ r') × (c ≡ c') × (m ≡ m')
  unfolding SheetIf
  if_unique (Ok _) r r' c c' m m' h k =
      let same = summed_unique (LineBy b) (line_unique b) s c₀ m₀ c c' m m' h.1 k.1 in
      (h.0 ∙ sym k.0, same.0, same.1)
  if_unique (Err x) r r' c c' m m' h k = (h.0 ∙ sym k.0, h.1 ∙ sym k.1, h.2 ∙ sym k.2)

  -- For one input, two outcomes that meet the promise have the same answer and the same bytes.
  pub sheet_unique : (r r' : Result ℕ Refusal) (c c' m m' : List ℕ) → SheetOutcome b s c₀ m₀ r c m → SheetOutcome b s c₀ m₀ r' c' m' → (r ≡ r') × (c ≡ c') × (m ≡ m')
  unfolding SheetOutcome
  sheet_unique r r' c c' m m' h k = if_unique (sheet_refusal b s m₀) r r' c c' m m' h k

-- ---- a step

module _ (b s : List ℕ) (start : ℕ) (c₀ : List ℕ) where
  pub step_refused : (x : Refusal) → step_refusal b s ≡ Err x → StepOutcome b s start c₀ (Err x) start c₀
  unfolding StepOutcome StepIf
  step_refused x e = rw e (refl, refl, refl)

  pub step_taken : (r : Step) (next : ℕ) (c : List ℕ) → step_refusal b s ≡ accepted → StepFrom (ltb start (length s)) b s start c₀ r next c → StepOutcome b s start c₀ r next c
  unfolding StepOutcome StepIf
  step_taken r next c e h = rw e h

  pub step_end : length s ≤ start → StepFrom (ltb start (length s)) b s start c₀ (Ok None) start c₀
  unfolding StepFrom
  step_end l = rw (le-ltb start (length s) l) (refl, refl, refl)

  pub step_line : (v next : ℕ) (c : List ℕ) → start < length s → LineBy b (line_at s start) c₀ v c → next ≡ next_start s start → StepFrom (ltb start (length s)) b s start c₀ (Ok (Some v)) next c
  unfolding StepFrom
  step_line v next c l h e = rw (lt-ltb start (length s) l) (v, refl, h, e)

  from_unique : (t : Bool) (r r' : Step) (next next' : ℕ) (c c' : List ℕ) → StepFrom t b s start c₀ r next c → StepFrom t b s start c₀ r' next' c' → (r ≡ r') × (next ≡ next') × (c ≡ c')
  unfolding StepFrom
  from_unique true r r' next next' c c' h k =
      let same = line_unique b (line_at s start) c₀ h.0 k.0 c c' h.2 k.2 in
      (h.1 ∙ ap (λ (v : ℕ). Ok (Some v)) same.0 ∙ sym k.1, h.3 ∙ sym k.3, same.1)
  from_unique false r r' next next' c c' h k = (h.0 ∙ sym k.0, h.1 ∙ sym k.1, h.2 ∙ sym k.2)

  step_if_unique : (v : Verdict) (r r' : Step) (next next' : ℕ) (c c' : List ℕ) → StepIf v b s start c₀ r next c → StepIf v b s start c₀ r' next' c' → (r ≡ r') × (next ≡ next') × (c ≡ c')
  unfolding StepIf
  step_if_unique (Ok _) r r' next next' c c' h k = from_unique (ltb start (length s)) r r' next next' c c' h k
  step_if_unique (Err x) r r' next next' c c' h k = (h.0 ∙ sym k.0, h.1 ∙ sym k.1, h.2 ∙ sym k.2)

  -- For one input, two outcomes that meet the promise give the same, stand at the same place, and have the same chart.
  pub step_unique : (r r' : Step) (next next' : ℕ) (c c' : List ℕ) → StepOutcome b s start c₀ r next c → StepOutcome b s start c₀ r' next' c' → (r ≡ r') × (next ≡ next') × (c ≡ c')
  unfolding StepOutcome
  step_unique r r' next next' c c' h k = step_if_unique (step_refusal b s) r r' next next' c c' h k
