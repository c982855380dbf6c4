-- The calls for comparing two parses (02, [9]).
use Rattle.std.specs.Prelude.{ℕ, ◌≡◌, List}
use Rattle.compare.specs.Answer.{Compared, CompareAnswer}
use Rattle.reply.specs.Answers.{compare_reply}
use Rattle.reply.specs.Reply.{refused}
use Rattle.reply.specs.declared.Reply.{Reply}

-- What a call gives that makes a number of the reply: number_of, or place_of.
pub record CompareCall (number : Reply → ℕ) (b w first second : List ℕ) (r : ℕ) : Type 0 where
  pub answer : CompareAnswer
  pub compared : Compared b w first second answer
  pub is_number : r ≡ number (compare_reply refused answer)
