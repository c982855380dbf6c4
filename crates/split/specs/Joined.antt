-- Lines, joined to a sheet: what makes the lines of a sheet these and no others (02, [4]).
use Rattle.std.specs.Prelude.{ℕ, ◌≡◌, cond, List, [], ◌∷◌, ◌++◌, eqb}
use Rattle.common.specs.Lists.{joined, All}
use Rattle.split.specs.Lines.{line_feed}

-- one behind the other, each ended by a line feed
abbrev pub joined_lines : List (List ℕ) → List ℕ
joined_lines ws = joined (λ (w : List ℕ). w ++ (line_feed ∷ [])) ws

-- no line feed is part of it
abbrev pub NoFeed : List ℕ → Type 0
NoFeed w = All (λ (x : ℕ). x ≡ line_feed → ⊥) w

-- a sheet whose last line, if it has one that no line feed ends, is ended too
unfoldable pub ended : List ℕ → List ℕ
ended [] = []
ended (x ∷ []) = cond (eqb x line_feed) (x ∷ []) (x ∷ line_feed ∷ [])
ended (x ∷ y ∷ s) = x ∷ ended (y ∷ s)
