-- The rows of a tree (02, [1]): for each number of its listing where it stands, and where its text does.
use Rattle.std.specs.Prelude.{ℕ, ◌+◌, List, [], ◌∷◌, ◌++◌, length}
use Rattle.rows.specs.declared.Row.{Row}
use Rattle.theory.specs.Tree.{Tree, leaf, node, Forest, none, ◌▷◌, production_number, yields}

-- How far below the root a number stands; the number; where its text starts, and the index after the text's last byte.
abbrev pub row : (depth number start end : ℕ) → Row
row depth number start end = record { depth = depth; number = number; start = start; end = end }

-- that of a number that is not there: its text is the empty one at the start
abbrev pub no_row : Row
no_row = row 0 0 0 0

-- The rows of a tree of depth d whose text starts at i, in the order of the listing. What is below a production is one deeper; an empty text ends where it starts.
unfoldable mutual
  pub rows : (d i : ℕ) → Tree → List Row
  rows d i (leaf c) = row d c i (i + 1) ∷ []
  rows d i (node p f) = row d (production_number p) i (i + length (yields f)) ∷ rows_below (d + 1) i f

  -- of the trees of a list: the text of each starts where that of those before it ends
  pub rows_below : (d i : ℕ) → Forest → List Row
  rows_below d i none = []
  rows_below d i (f ▷ t) = rows_below d i f ++ rows d (i + length (yields f)) t
