-- How often a parse uses each production (02, [9]; 002, Definition 7.1), counted in its listing and in its tree. Characters don't count.
use Rattle.std.specs.Prelude.{ℕ, ◌+◌, List, [], ◌∷◌, eqb}
use Rattle.common.specs.Below.{bit_of}
use Rattle.numbers.specs.Numbers.{numbers_of}
use Rattle.order.specs.Order.{Uses}
use Rattle.theory.specs.Tree.{Tree, leaf, node, Forest, none, ◌▷◌, production_number}

-- how often n is one of these numbers
unfoldable pub occurrences : ℕ → List ℕ → ℕ
occurrences n [] = 0
occurrences n (x ∷ numbers) = bit_of (eqb x n) + occurrences n numbers

-- The uses that a listing's bytes show: a production is used where its number stands.
unfoldable pub uses : List ℕ → Uses
uses l p = occurrences (production_number p) (numbers_of l)

-- The same in a tree: a production is used at each subtree of which it is the root.
unfoldable mutual
  pub tree_uses : Tree → Uses
  tree_uses (leaf c) p = 0
  tree_uses (node q f) p = bit_of (eqb q p) + forest_uses f p

  pub forest_uses : Forest → Uses
  forest_uses none p = 0
  forest_uses (f ▷ t) p = forest_uses f p + tree_uses t p
