-- The parses of a text (01's readings), and the lists of trees that an entry of the chart counts (01, "Readings, listings and the chart").
use Rattle.std.specs.Prelude.{ℕ, ◌≡◌, List}
use Rattle.std.proofs.Math.Seq.{slice}
use Rattle.flatten.specs.Trees.{Built, Arguments, ConflictFreeIn}
use Rattle.layout.specs.Layout.{start_sort}
use Rattle.priority.specs.Conflict.{ConflictIn}
use Rattle.priority.specs.Priorities.{declarations_of}
use Rattle.priority.specs.declared.Declaration.{Declaration}
use Rattle.theory.specs.Tree.{Tree, node, Forest, yield, yields, At}

-- By a list of declarations, a tree of the start sort, without a conflict, that spells the text.
pub record ReadingIn (b : List ℕ) (ls : List Declaration) (w : List ℕ) (t : Tree) : Type 0 where
  pub built : Built b (start_sort b) t
  pub free : ConflictFreeIn b ls t
  pub spells : yield t ≡ w

-- A list of trees for the first d arguments of production p, each without a conflict in itself and in no conflict with the production at its argument,
-- that spells the text from i to j.
pub record EntryListIn (b : List ℕ) (ls : List Declaration) (w : List ℕ) (p d i j : ℕ) (f : Forest) : Type 0 where
  pub built : Arguments b p f d
  pub free : (k : ℕ) (t : Tree) → At k f t → ConflictFreeIn b ls t
  pub apart : (k q : ℕ) (h : Forest) → At k f (node q h) → ConflictIn b ls p k q → ⊥
  pub spells : yields f ≡ slice i j w

-- The same by the grammar's own declarations.
abbrev pub Reading : List ℕ → List ℕ → Tree → Type 0
Reading b = ReadingIn b (declarations_of b)

abbrev pub EntryList : List ℕ → List ℕ → (p d i j : ℕ) → Forest → Type 0
EntryList b = EntryListIn b (declarations_of b)
