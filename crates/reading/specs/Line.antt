-- The lines that reading prints.
use Rattle.std.specs.Prelude.{ℕ, ◌*◌, ◌++◌, List, [], codes, decimal}
use Rattle.std.proofs.Common.{zero, suc}
use Rattle.common.specs.Bytes.{number_at}
use Rattle.engine.specs.declared.Answer.{Answer}
use Rattle.engine.specs.declared.Answer.TheVariants.{None, One, Several, Refused}
use Rattle.refusal.specs.Fault.{number_of}
use Rattle.refusal.specs.declared.Refusal.{Refusal}
use Rattle.report.specs.Lines.{refusal_line}

-- a number of a listing, behind a space
abbrev pub spaced : List ℕ → ℕ → List ℕ
spaced listing at = codes " " ++ decimal (number_at listing at)

-- the first `count` numbers of a listing
unfoldable pub spaced_numbers : List ℕ → ℕ → List ℕ
spaced_numbers listing zero = []
spaced_numbers listing (suc count) = spaced_numbers listing count ++ spaced listing (2 * count)

-- the line of an answer, whose numbers the listing has
abbrev pub answer_line : Answer Refusal → List ℕ → List ℕ
answer_line None listing = codes "none\n"
answer_line (One count) listing = codes "one" ++ (spaced_numbers listing count ++ codes "\n")
answer_line Several listing = codes "several\n"
answer_line (Refused r) listing = refusal_line (number_of r.fault) r.place
