-- The calls for the reason of a conflict (02, [8]).
use Rattle.std.specs.Prelude.{ℕ, ◌≡◌, List, Result, Option}
use Rattle.reason.specs.Reason.{Reasoned}
use Rattle.reply.specs.Answers.{reason_reply}
use Rattle.reply.specs.Reply.{refused}
use Rattle.reply.specs.declared.Reply.{Reply}
use Rattle.reason.specs.declared.Cause.{Cause}
use Rattle.refusal.specs.declared.Refusal.{Refusal}

-- What a call gives that makes a number of the reply: number_of, or place_of.
pub record ReasonCall (number : Reply → ℕ) (b : List ℕ) (p i q : ℕ) (c₀ : List ℕ) (r : ℕ) (c : List ℕ) : Type 0 where
  pub answer : Result (Option Cause) Refusal
  pub outcome : Reasoned b p i q c₀ answer c
  pub is_number : r ≡ number (reason_reply refused answer)
