-- The calls for a sheet: their numbers fit, and they have one outcome for each input.
use Prim.Native.Nat.{ℕ}
use mathlib.Core.List.{List}
use mathlib.Core.Path.{◌≡◌, refl, sym, ◌∙◌, ap, ap₂}
use native.Mathlib.Omega.{arith}
use Rattle.reply.proofs.AnswersLaws.{step_fits}
use Rattle.reply.proofs.ReplyLaws.{answered_fits, refusal_fits}
use Rattle.reply.specs.Answers.{count_reply, step_reply, Near}
use Rattle.reply.specs.Reply.{refused, Fits}
use Rattle.reply.specs.declared.Reply.{Reply}
use Rattle.sheet.proofs.AnswerLaws.{sheet_read_exactly, step_line_says}
use Rattle.sheet.proofs.LineLaws.{line_small}
use Rattle.split.proofs.LinesLaws.{lines_few, next_within}
use Rattle.sheet.proofs.OutcomeLaws.{sheet_unique, step_unique}
use Rattle.sheet.proofs.RefusalLaws.{refusal_none, sheet_room}
use Rattle.split.specs.Lines.{line_at}
use Rattle.sheet.specs.Outcome.{SheetOutcome, StepOutcome, Step}
use Rattle.meadowsink.specs.Sheet.{SheetCall, StepCall}
use Rattle.std.specs.Prelude.{Result, Ok, Err, Some, None}
use Rattle.refusal.specs.declared.Refusal.{Refusal}

-- ---- the sheet

pub sheet_fits : (b s c₀ m₀ : List ℕ) (r : Result ℕ Refusal) (c m : List ℕ) → SheetOutcome b s c₀ m₀ r c m → Fits (count_reply refused r)
unfolding count_reply
sheet_fits b s c₀ m₀ (Ok n) c m o =
    let read = (sheet_read_exactly b s c₀ m₀ (Ok n) c m o n).0 refl in
    let short = ((refusal_none b s).0 (sheet_room b s m₀ read.0).0).1 in
    answered_fits 1 n (omega arith) (omega (arith, read.1, lines_few s))
sheet_fits b s c₀ m₀ (Err r) c m o = refusal_fits r

-- The number and every byte of the areas, whatever number is made of the reply.
pub sheet_call_unique : (number : Reply → ℕ) (b s c₀ m₀ : List ℕ) (r r' : ℕ) (c c' m m' : List ℕ) → SheetCall number b s c₀ m₀ r c m → SheetCall number b s c₀ m₀ r' c' m' → (r ≡ r') × (c ≡ c') × (m ≡ m')
sheet_call_unique number b s c₀ m₀ r r' c c' m m' h k =
    let (answers, charts, summaries) = sheet_unique b s c₀ m₀ h.answer k.answer c c' m m' h.outcome k.outcome in
    (h.is_number ∙ ap (λ (answer : Result ℕ Refusal). number (count_reply refused answer)) answers ∙ sym k.is_number, charts, summaries)

-- ---- a step

module _ (b s : List ℕ) (start : ℕ) (c₀ : List ℕ) where
  -- behind a line the next one starts within the sheet
  pub step_near : (r : Step) (next : ℕ) (c : List ℕ) → StepOutcome b s start c₀ r next c → Near r next
  unfolding Near
  step_near (Ok None) next c o = tt
  step_near (Ok (Some v)) next c o =
      let (allowed, left, read, goes) = step_line_says b s start c₀ (Ok (Some v)) next c o v refl in
      omega (arith, goes, next_within s start, ((refusal_none b s).0 allowed).1)
  step_near (Err r) next c o = tt

  pub step_call_fits : (r : Step) (next : ℕ) (c : List ℕ) → StepOutcome b s start c₀ r next c → Fits (step_reply refused r next)
  step_call_fits r next c o =
      step_fits r next (step_near r next c o)
      (λ v e. let (allowed, left, read, goes) = step_line_says b s start c₀ r next c o v e in omega (arith, line_small b (line_at s start) c₀ v c read))

  pub step_call_unique : (number : Reply → ℕ) (r r' : ℕ) (c c' : List ℕ) → StepCall number b s start c₀ r c → StepCall number b s start c₀ r' c' → (r ≡ r') × (c ≡ c')
  step_call_unique number r r' c c' h k =
      let (steps, nexts, charts) = step_unique b s start c₀ h.step k.step h.next k.next c c' h.outcome k.outcome in
      (h.is_number ∙ ap₂ (λ (x : Step) (n : ℕ). number (step_reply refused x n)) steps nexts ∙ sym k.is_number, charts)
