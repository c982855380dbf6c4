-- What the contracts inside cite: a side's kind by its number, and that a pair is covered there.
use Rattle.std.specs.Prelude.{ℕ, ◌<◌, ◌≡◌, true, List}
use Rattle.layout.specs.Layout.{declarations}
use Rattle.priority.specs.Priorities.{Kind, kind_number, either_way}
use Rattle.reason.specs.Reason.{covers_side}

-- The number of a kind that holds either way round.
abbrev pub IsSide : Kind → ℕ → Type 0
IsSide k n = (n ≡ kind_number k) × (either_way k ≡ true)

-- Some declaration covers the pair with kind k or as not together.
abbrev pub Covered : List ℕ → Kind → ℕ → ℕ → Type 0
Covered b k p q = (d : ℕ) × (d < declarations b) × (covers_side b k p q d ≡ true)
