-- Writing a text into a lent buffer: what comes back, and what the buffer holds afterwards.
use Rattle.std.specs.Prelude.{ℕ, cond, List, leb, Result, Ok, Err}
use Rattle.common.specs.Lists.{overwritten}
use Rattle.refusal.specs.Verdict.{refused}
use Rattle.refusal.specs.declared.Fault.{Fault}
use Rattle.refusal.specs.declared.Refusal.{Refusal}

-- written if there is room for the bytes needed; else refused with this fault, and the place is how many are needed
unfoldable pub fitted : (fault : Fault) (needed room : ℕ) → Result ℕ Refusal
fitted fault needed room = cond (leb needed room) (Ok needed) (refused fault needed)

-- the text and, beyond it, what the buffer held; a refusal changes nothing
abbrev pub buffer_after : Result ℕ Refusal → List ℕ → List ℕ → List ℕ
buffer_after (Ok n) text buffer = overwritten text buffer
buffer_after (Err r) text buffer = buffer
