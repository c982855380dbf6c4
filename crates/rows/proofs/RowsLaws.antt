-- Laws of the rows of a tree: one for each number of the listing, in its order; the text of each stands within that of the tree.
use Prim.Native.Nat.{ℕ, ◌+◌, ◌≤◌, ◌<◌}
use mathlib.Core.List.{List, ◌++◌, map, map-append}
use mathlib.Core.Path.{◌≡◌, refl, sym, ◌∙◌, ap, ap₂}
use native.Mathlib.Omega.{arith}
use lib.ListN.{length, get_or, length-append, length-map, get_or-map}
use Rattle.common.proofs.AllLaws.{all_append, all_weaker, all_at}
use Rattle.common.specs.Lists.{All}
use Rattle.rows.specs.Rows.{no_row, rows, rows_below}
use Rattle.rows.specs.declared.Row.{Row}
use Rattle.theory.specs.Tree.{Tree, leaf, node, Forest, none, ◌▷◌, yield, yields, listing, listings}

-- ---- one row to a number

mutual
  unfolding rows listing

  pub row_numbers : (d i : ℕ) (t : Tree) → map (λ (r : Row). r.number) (rows d i t) ≡ listing t
  row_numbers d i (leaf c) = refl
  row_numbers d i (node p f) = rw (row_numbers_below (d + 1) i f) refl

  pub row_numbers_below : (d i : ℕ) (f : Forest) → map (λ (r : Row). r.number) (rows_below d i f) ≡ listings f
  row_numbers_below d i none = refl
  row_numbers_below d i (f ▷ t) =
      map-append (λ (r : Row). r.number) (rows_below d i f) (rows d (i + length (yields f)) t)
      ∙ ap₂ (λ (v w : List ℕ). v ++ w) (row_numbers_below d i f) (row_numbers d (i + length (yields f)) t)

-- the number of a row is that of the listing
pub row_number : (d i : ℕ) (t : Tree) (k : ℕ) → (get_or (rows d i t) k no_row).number ≡ get_or (listing t) k 0
row_number d i t k = sym (get_or-map (λ (r : Row). r.number) (rows d i t) k no_row) ∙ ap (λ (v : List ℕ). get_or v k 0) (row_numbers d i t)

pub rows_length : (d i : ℕ) (t : Tree) → length (rows d i t) ≡ length (listing t)
rows_length d i t = sym (length-map (rows d i t) (λ (r : Row). r.number)) ∙ ap (length {A = ℕ}) (row_numbers d i t)

pub rows_below_length : (d i : ℕ) (f : Forest) → length (rows_below d i f) ≡ length (listings f)
rows_below_length d i f = sym (length-map (rows_below d i f) (λ (r : Row). r.number)) ∙ ap (length {A = ℕ}) (row_numbers_below d i f)

-- ---- how long a text is

-- at most as many characters as numbers
mutual
  unfolding listing yield

  pub yield_short : (t : Tree) → length (yield t) ≤ length (listing t)
  yield_short (leaf c) = omega arith
  yield_short (node p f) = omega (arith, yields_short f)

  pub yields_short : (f : Forest) → length (yields f) ≤ length (listings f)
  yields_short none = omega arith
  yields_short (f ▷ t) = omega (arith, length-append (yields f) (yield t), length-append (listings f) (listing t), yields_short f, yield_short t)

-- ---- where numbers and texts stand

-- A row of a tree of depth d, with n numbers, whose text stands from i to j.
abbrev pub Within : (d n i j : ℕ) → Row → Type 0
Within d n i j r = (d ≤ r.depth) × (r.depth < d + n) × (i ≤ r.start) × (r.start ≤ r.end) × (r.end ≤ j)

-- the rows of a part of a tree are rows of the tree
within_wider : (d n i j d' n' i' j' : ℕ) → d' ≤ d → d + n ≤ d' + n' → i' ≤ i → j ≤ j' → (rs : List Row) → All (Within d n i j) rs → All (Within d' n' i' j') rs
within_wider d n i j d' n' i' j' a m c e =
    all_weaker (Within d n i j) (Within d' n' i' j') (λ r h. (omega (arith, h.0), omega (arith, h.1), omega (arith, h.2), h.3, omega (arith, h.4)))

mutual
  unfolding rows listing yield

  all_within : (d i : ℕ) (t : Tree) → All (Within d (length (listing t)) i (i + length (yield t))) (rows d i t)
  all_within d i (leaf c) = ((omega arith, omega arith, omega arith, omega arith, omega arith), tt)
  all_within d i (node p f) = (
    (omega arith, omega arith, omega arith, omega arith, omega arith),
    within_wider (d + 1) (length (listings f)) i (i + length (yields f)) d (length (listing (node p f))) i (i + length (yields f))
        (omega arith) (omega arith) (omega arith) (omega arith) (rows_below (d + 1) i f) (all_within_below (d + 1) i f),
  )

  all_within_below : (d i : ℕ) (f : Forest) → All (Within d (length (listings f)) i (i + length (yields f))) (rows_below d i f)
  all_within_below d i none = tt
  all_within_below d i (f ▷ t) =
      let text = length-append (yields f) (yield t) in
      let numbers = length-append (listings f) (listing t) in
      let next = i + length (yields f) in
      all_append (Within d (length (listings (f ▷ t))) i (i + length (yields (f ▷ t)))) (rows_below d i f) (rows d next t)
      (within_wider d (length (listings f)) i next d (length (listings (f ▷ t))) i (i + length (yields (f ▷ t)))
      (omega arith) (omega arith) (omega arith) (omega arith) (rows_below d i f) (all_within_below d i f))
      (within_wider d (length (listing t)) next (next + length (yield t)) d (length (listings (f ▷ t))) i (i + length (yields (f ▷ t)))
      (omega arith) (omega arith) (omega arith) (omega arith) (rows d next t) (all_within d next t))

-- The depth of each number is below the count of numbers; its text stands within that of the tree, and ends at or after its start.
pub row_within : (d i : ℕ) (t : Tree) (k : ℕ) → k < length (rows d i t) → Within d (length (listing t)) i (i + length (yield t)) (get_or (rows d i t) k no_row)
row_within d i t k l = all_at (Within d (length (listing t)) i (i + length (yield t))) (rows d i t) k no_row (all_within d i t) l
