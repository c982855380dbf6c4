-- The calls that read a text, by a grammar or by a flat text (01, "Readings, listings and the chart"; 02, [7]): the sheet viewer's, and that for the place of a refusal.
use Rattle.std.specs.Prelude.{ℕ, ◌≡◌, List, ◌++◌, take, drop}
use Rattle.parse.specs.Outcome.{Outcome}
use Rattle.reply.specs.Answers.{read_reply}
use Rattle.reply.specs.Reply.{refused, number_of, place_of}
use Rattle.reply.specs.declared.Reply.{Reply}
use Rattle.engine.specs.declared.Answer.{Answer}
use Rattle.refusal.specs.declared.Refusal.{Refusal}

-- most bytes of the listing's buffer that the call uses
abbrev pub used_limit : ℕ
used_limit = 65536

-- What an operation that reads a text promises of a chart that held c₀ and a buffer that held l₀: its answer, and what they hold then.
abbrev pub Promise : Type 1
Promise = (c₀ l₀ : List ℕ) → Answer Refusal → (c l : List ℕ) → Type 0

-- The answer is the one that it has for the first bytes of the buffer; bytes beyond them stay.
pub record UsedOutcome (P : Promise) (c₀ l₀ : List ℕ) (r : Answer Refusal) (c l : List ℕ) : Type 0 where
  pub used : List ℕ
  pub outcome : P c₀ (take used_limit l₀) r c used
  pub listing : l ≡ used ++ drop used_limit l₀

-- What a call gives that makes a number of the reply for that answer.
pub record CallOutcome (number : Reply → ℕ) (P : Promise) (c₀ l₀ : List ℕ) (r : ℕ) (c l : List ℕ) : Type 0 where
  pub answer : Answer Refusal
  pub outcome : UsedOutcome P c₀ l₀ answer c l
  pub is_number : r ≡ number (read_reply refused answer)

-- the sheet viewer's call
abbrev pub ViewerOutcome : (b w c₀ l₀ : List ℕ) (r : ℕ) (c l : List ℕ) → Type 0
ViewerOutcome b w = CallOutcome number_of (Outcome b w)

-- the call for the place
abbrev pub PlaceOutcome : (b w c₀ l₀ : List ℕ) (r : ℕ) (c l : List ℕ) → Type 0
PlaceOutcome b w = CallOutcome place_of (Outcome b w)
