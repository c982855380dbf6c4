-- The trees of a grammar, and those without a conflict (000, Definitions 2.2 and 2.7; 01, "Readings, listings and the chart").
use Rattle.std.specs.Prelude.{ℕ, zero, suc, ◌-◌, ◌<◌, ◌≡◌, true, List}
use Rattle.classes.specs.Classes.{is_class, class_has}
use Rattle.layout.specs.Layout.{productions, argument_count, result_sort, argument}
use Rattle.layout.specs.Limits.{class_base}
use Rattle.priority.specs.Conflict.{ConflictIn, Conflict}
use Rattle.priority.specs.Priorities.{declarations_of}
use Rattle.priority.specs.declared.Declaration.{Declaration}
use Rattle.theory.specs.Tree.{Tree, leaf, node, Forest, none, ◌▷◌, At, Subtree}

-- A tree is built at an argument byte x: a character of the class that x is, or a production with result x whose arguments are built in turn.
-- Conflicts are let through.
unfoldable mutual
  pub Built : List ℕ → ℕ → Tree → Type 0
  Built b x (leaf c) = (is_class b x ≡ true) × (class_has b (x - class_base) c ≡ true)
  Built b x (node p f) = (p < productions b) × (result_sort b p ≡ x) × Arguments b p f (argument_count b p)

  -- the list f has one tree for each of the first d arguments of production p
  pub Arguments : List ℕ → ℕ → Forest → ℕ → Type 0
  Arguments b p none zero = Unit {0}
  Arguments b p none (suc d) = ⊥
  Arguments b p (f ▷ t) zero = ⊥
  Arguments b p (f ▷ t) (suc d) = Arguments b p f d × Built b (argument b p d) t

-- By a list of declarations, the root of the tree matches a conflict pattern: one of its arguments is a production that conflicts there.
pub data RootConflictIn (b : List ℕ) (ls : List Declaration) : Tree → Type 0 where
  conflict_at : {p i q : ℕ} {f g : Forest} → At i f (node q g) → ConflictIn b ls p i q → RootConflictIn b ls (node p f)

-- A subtree has a root conflict.
pub record HasConflictIn (b : List ℕ) (ls : List Declaration) (t : Tree) : Type 0 where
  pub subtree : Tree
  pub is_subtree : Subtree subtree t
  pub root : RootConflictIn b ls subtree

-- 01's trees without a clash.
abbrev pub ConflictFreeIn : List ℕ → List Declaration → Tree → Type 0
ConflictFreeIn b ls t = HasConflictIn b ls t → ⊥

-- The same by the grammar's own declarations.
abbrev pub RootConflict : List ℕ → Tree → Type 0
RootConflict b = RootConflictIn b (declarations_of b)

abbrev pub ConflictFree : List ℕ → Tree → Type 0
ConflictFree b = ConflictFreeIn b (declarations_of b)

-- Tree t doesn't conflict as argument i of production p.
abbrev pub Apart : List ℕ → ℕ → ℕ → Tree → Type 0
Apart b p i (leaf c) = Unit {0}
Apart b p i (node q f) = Conflict b p i q → ⊥
