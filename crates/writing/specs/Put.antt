-- Writing text into a lent buffer from a place on: what is past the buffer's end is dropped, and the next place comes back all the same.
use Rattle.std.specs.Prelude.{ℕ, ◌+◌, ◌^◌, ◌≡◌, List, length}
use Rattle.std.proofs.lemmas.List.Edits.{sets}

-- After `text` was put at `at` into a buffer that held l₀, the buffer holds l and r is the next place.
pub record Put (text l₀ : List ℕ) (at : ℕ) (l : List ℕ) (r : ℕ) : Type 0 where
  pub wrote : l ≡ sets l₀ at text
  pub next : r ≡ at + length text

-- no place is as far as this: sums of places do not wrap
abbrev pub farthest : ℕ
farthest = 2 ^ 40
