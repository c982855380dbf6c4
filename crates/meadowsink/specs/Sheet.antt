-- The calls for a sheet and for a step down it (02, [4]).
use Rattle.std.specs.Prelude.{ℕ, ◌≡◌, List, Result}
use Rattle.reply.specs.Answers.{count_reply, step_reply}
use Rattle.reply.specs.Reply.{refused}
use Rattle.reply.specs.declared.Reply.{Reply}
use Rattle.sheet.specs.Outcome.{SheetOutcome, StepOutcome, Step}
use Rattle.refusal.specs.declared.Refusal.{Refusal}

-- What a call gives that makes a number of the reply for the sheet's answer: number_of, or place_of.
pub record SheetCall (number : Reply → ℕ) (b s c₀ m₀ : List ℕ) (r : ℕ) (c m : List ℕ) : Type 0 where
  pub answer : Result ℕ Refusal
  pub outcome : SheetOutcome b s c₀ m₀ answer c m
  pub is_number : r ≡ number (count_reply refused answer)

-- The same for a step.
pub record StepCall (number : Reply → ℕ) (b s : List ℕ) (start : ℕ) (c₀ : List ℕ) (r : ℕ) (c : List ℕ) : Type 0 where
  pub step : Step
  pub next : ℕ
  pub outcome : StepOutcome b s start c₀ step next c
  pub is_number : r ≡ number (step_reply refused step next)
