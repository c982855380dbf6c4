-- The bytes of a stack of levels: a level for each production of a tree whose arguments are not all written yet.
use Rattle.std.specs.Prelude.{ℕ, zero, suc, ◌+◌, ◌*◌, List, ◌≡◌, get_or, take, drop}
use Rattle.layout.specs.Limits.{argument_limit}

-- the places where the arguments of a production begin, and where the last one ends
abbrev pub end_count : ℕ
end_count = argument_limit + 1

-- the bytes of a level: its production, how many of its arguments are written, and its places
abbrev pub level_bytes : ℕ
level_bytes = end_count + 2

-- the production of level n, how many of its arguments are written, and where its arguments begin and end
unfoldable pub production_of : List ℕ → ℕ → ℕ
production_of levels n = get_or levels (n * level_bytes) 0

unfoldable pub written_of : List ℕ → ℕ → ℕ
written_of levels n = get_or levels (n * level_bytes + 1) 0

unfoldable pub places_of : List ℕ → ℕ → List ℕ
places_of levels n = take end_count (drop (n * level_bytes + 2) levels)

-- byte k of the level of production q, none of whose arguments is written
unfoldable pub open_byte : ℕ → List ℕ → ℕ → ℕ
open_byte q ends zero = q
open_byte q ends (suc zero) = 0
open_byte q ends (suc (suc d)) = get_or ends d 0

-- Argument `argument` of `production`, from `from` to `to`, comes next at level k.
pub record DueAt (levels : List ℕ) (k production argument from to : ℕ) : Type 0 where
  pub is_production : production ≡ production_of levels k
  pub is_argument : argument ≡ written_of levels k
  pub is_from : from ≡ get_or (places_of levels k) argument 0
  pub is_to : to ≡ get_or (places_of levels k) (argument + 1) 0
