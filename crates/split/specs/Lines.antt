-- A sheet and its lines (02, [4]).
use Rattle.std.specs.Prelude.{ℕ, suc, ◌+◌, min, Bool, false, cond, not, List, [], ◌∷◌, eqb, ltb, length, get_or, drop}
use Rattle.std.proofs.Math.Seq.{slice}

-- the byte that ends a line
abbrev pub line_feed : ℕ
line_feed = 10

-- A byte in front of lines is the first of the first of them; where there is none, it makes one.
unfoldable pub in_front : ℕ → List (List ℕ) → List (List ℕ)
in_front x [] = (x ∷ []) ∷ []
in_front x (w ∷ ws) = (x ∷ w) ∷ ws

-- The lines of a sheet. A line feed ends a line and is no part of it; what follows the last one is a line too if it isn't empty.
unfoldable pub lines : List ℕ → List (List ℕ)
lines [] = []
lines (x ∷ s) = cond (eqb x line_feed) ([] ∷ lines s) (in_front x (lines s))

-- ---- the line that starts at a place of the sheet

-- A line goes on there: the sheet has a byte at the place, and it is no line feed.
unfoldable pub goes_on : (s : List ℕ) (at : ℕ) → Bool
goes_on s at = cond (ltb at (length s)) (not (eqb (get_or s at 0) line_feed)) false

-- how many bytes stand before the first line feed, or before the end
unfoldable pub before_feed : List ℕ → ℕ
before_feed [] = 0
before_feed (x ∷ s) = cond (eqb x line_feed) 0 (suc (before_feed s))

-- where it ends
unfoldable pub line_end : (s : List ℕ) (start : ℕ) → ℕ
line_end s start = start + before_feed (drop start s)

-- where the next one starts: behind the line feed, or at the end of the sheet if there is none
unfoldable pub next_start : (s : List ℕ) (start : ℕ) → ℕ
next_start s start = min (suc (line_end s start)) (length s)

-- the line: its own part of the sheet
abbrev pub line_at : (s : List ℕ) (start : ℕ) → List ℕ
line_at s start = slice start (line_end s start) s
