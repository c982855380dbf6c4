-- Parse trees (000, Definition 2.2; 01's trees and readings), what they spell, and their listings.
use Rattle.std.specs.Prelude.{ℕ, ◌+◌, List, [], ◌∷◌, ◌++◌}

infixl 60 ◌▷◌
-- A tree is a character, or a production with a list of trees, one to an argument. The list grows at its end: f ▷ t is f with t behind it.
mutual
  pub data Tree : Type 0 where
    leaf : ℕ → Tree
    node : ℕ → Forest → Tree

  pub data Forest : Type 0 where
    none : Forest
    ◌▷◌ : Forest → Tree → Forest

-- The number of production r (01; 000, Example 3.9): above all characters.
abbrev pub production_number : ℕ → ℕ
production_number r = 258 + r

-- The characters of a tree, in order.
unfoldable mutual
  pub yield : Tree → List ℕ
  yield (leaf c) = c ∷ []
  yield (node p f) = yields f

  pub yields : Forest → List ℕ
  yields none = []
  yields (f ▷ t) = yields f ++ yield t

-- The numbers of a tree (01's listing): a production before its arguments, arguments in order.
unfoldable mutual
  pub listing : Tree → List ℕ
  listing (leaf c) = c ∷ []
  listing (node p f) = production_number p ∷ listings f

  pub listings : Forest → List ℕ
  listings none = []
  listings (f ▷ t) = listings f ++ listing t

-- How many trees a list has.
unfoldable pub size : Forest → ℕ
size none = 0
size (f ▷ t) = size f + 1

-- t stands at place i of the list, counted from 0.
pub data At : ℕ → Forest → Tree → Type 0 where
  at_end : {f : Forest} {t : Tree} → At (size f) (f ▷ t) t
  further : {i : ℕ} {f : Forest} {s t : Tree} → At i f t → At i (f ▷ s) t

-- s is a subtree of t: t itself, or a subtree of one of its arguments.
pub data Subtree (s : Tree) : Tree → Type 0 where
  itself : Subtree s s
  below : {p i : ℕ} {f : Forest} {t : Tree} → At i f t → Subtree s t → Subtree s (node p f)
