-- The walk over a tree that a listing lists, and what it leaves in the table.
use Rattle.std.specs.Prelude.{ℕ, ◌+◌, ◌≤◌, ◌≡◌, List, ◌++◌, map, length, drop}
use Rattle.std.proofs.lemmas.List.Edits.{sets}
use Rattle.flatten.specs.Trees.{Built}
use Rattle.layout.specs.Layout.{bodies_at}
use Rattle.numbers.specs.Numbers.{listing_limit}
use Rattle.rows.specs.Rows.{rows}
use Rattle.rows.specs.Table.{word}
use Rattle.rows.specs.declared.Next.{Next}
use Rattle.theory.specs.Tree.{Tree, yield, listing}

-- Tree t of grammar b is listed in these numbers, from number `at` on.
pub record ListedAt (b numbers : List ℕ) (at : ℕ) (t : Tree) : Type 0 where
  pub sort : ℕ
  pub built : Built b sort t
  pub others : List ℕ
  pub begins : drop at numbers ≡ listing t ++ others

-- The walk may go on at number `at`: a tree is listed there, and the table has room for all numbers.
-- The index of a number is at least its depth, and at least its place in the text.
pub record WalkFrom (b numbers table : List ℕ) (depth at place : ℕ) : Type 0 where
  pub tree : Tree
  pub listed : ListedAt b numbers at tree
  pub framed : bodies_at b ≤ length b
  pub room : length numbers ≤ length table
  pub few : length table ≤ listing_limit
  pub deep : depth ≤ at
  pub far : place ≤ at

-- the words of a tree's rows
abbrev pub words : (d i : ℕ) → Tree → List ℕ
words d i t = map word (rows d i t)

-- After the walk over t, from number `at` and from `place` in the text on, the table, which held table₀, has its rows; r is where numbers and text go on.
pub record Placed (t : Tree) (depth at place : ℕ) (table₀ table : List ℕ) (r : Next) : Type 0 where
  pub wrote : table ≡ sets table₀ at (words depth place t)
  pub number : r.number ≡ at + length (listing t)
  pub byte : r.byte ≡ place + length (yield t)
