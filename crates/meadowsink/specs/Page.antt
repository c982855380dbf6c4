-- The calls for the page of a reading (02, [1]).
use Rattle.std.specs.Prelude.{ℕ, ◌≡◌, List, Result}
use Rattle.page.specs.Answer.{PageOutcome}
use Rattle.reply.specs.Answers.{count_reply}
use Rattle.reply.specs.Reply.{refused}
use Rattle.reply.specs.declared.Reply.{Reply}
use Rattle.refusal.specs.declared.Refusal.{Refusal}

-- What a call gives that makes a number of the reply for the page's answer: number_of, or place_of.
pub record PageCall (number : Reply → ℕ) (b w l page₀ : List ℕ) (r : ℕ) (page : List ℕ) : Type 0 where
  pub answer : Result ℕ Refusal
  pub outcome : PageOutcome b w l page₀ answer page
  pub is_number : r ≡ number (count_reply refused answer)
