-- The calls for a flat text (02, [7]): reading by it, and checking it.
use Rattle.std.specs.Prelude.{ℕ, ◌≡◌, Bool, not, List, eqb, get_or, Result}
use Rattle.archive.specs.Outcome.{FlatOutcome}
use Rattle.common.specs.Lists.{tabulate}
use Rattle.layout.specs.Limits.{production_limit}
use Rattle.load.specs.Check.{Checked}
use Rattle.meadowsink.specs.Viewer.{CallOutcome}
use Rattle.reply.specs.Answers.{count_reply}
use Rattle.reply.specs.Reply.{refused}
use Rattle.reply.specs.declared.Reply.{Reply}
use Rattle.refusal.specs.declared.Refusal.{Refusal}

-- The entries for the root: one for each line that there could be; it is yes if its byte is there and is not 0.
unfoldable pub root_entries : List ℕ → List Bool
root_entries bytes = tabulate production_limit (λ r. not (eqb (get_or bytes r 0) 0))

-- What a call gives that makes a number of the reply for reading: number_of, or place_of.
abbrev pub FlatCall : (number : Reply → ℕ) (flat roots w c₀ l₀ : List ℕ) (r : ℕ) (c l : List ℕ) → Type 0
FlatCall number flat roots w = CallOutcome number (FlatOutcome flat (root_entries roots) w)

-- The same for checking.
pub record CheckCall (number : Reply → ℕ) (flat : List ℕ) (r : ℕ) : Type 0 where
  pub answer : Result ℕ Refusal
  pub outcome : Checked flat answer
  pub is_number : r ≡ number (count_reply refused answer)
