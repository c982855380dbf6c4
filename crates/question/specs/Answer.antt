-- What the conflict question (01's clash question) answers.
use Rattle.std.specs.Prelude.{ℕ, ◌<◌, Bool, cond, ◌&&◌, List, ltb, Result, Ok}
use Rattle.refusal.specs.Verdict.{refused, unless_refused}
use Rattle.refusal.specs.declared.Fault.TheVariants.{Absent}
use Rattle.refusal.specs.declared.Refusal.{Refusal}
use Rattle.layout.specs.Layout.{productions, argument_count}
use Rattle.priority.specs.Check.{checked}
use Rattle.priority.specs.Conflict.{conflicts}

-- Both productions are there, and so is argument i of p.
abbrev pub There : List ℕ → ℕ → ℕ → ℕ → Type 0
There b p i q = (p < productions b) × (i < argument_count b p) × (q < productions b)

-- The conflict question (01's clash question): the refusals of the grammar, then 7 with place 0 for a production or an argument that isn't there.
unfoldable pub is_there : List ℕ → ℕ → ℕ → ℕ → Bool
is_there b p i q = ltb p (productions b) && ltb i (argument_count b p) && ltb q (productions b)

-- What it answers of an accepted grammar: whether there is a conflict.
abbrev pub own_answer : List ℕ → ℕ → ℕ → ℕ → Result Bool Refusal
own_answer b p i q = cond (is_there b p i q) (Ok (conflicts b p i q)) (refused Absent 0)

unfoldable pub conflict_answer : List ℕ → ℕ → ℕ → ℕ → Result Bool Refusal
conflict_answer b p i q = unless_refused (checked b) (own_answer b p i q)
