-- Laws of the trees without a conflict.
use Prim.Native.Nat.{ℕ}
use mathlib.Core.List.{List}
use Rattle.flatten.specs.Trees.{RootConflict, ConflictFree}
use Rattle.theory.specs.Tree.{Tree, leaf, node, Forest, At, Subtree, itself, below}

-- ---- parts of a tree without a conflict

pub conflict_free_argument : {b : List ℕ} {p i : ℕ} {f : Forest} {t : Tree} → ConflictFree b (node p f) → At i f t → ConflictFree b t
conflict_free_argument free at h = free (record { subtree = h.subtree; is_subtree = below at h.is_subtree; root = h.root })

pub conflict_free_root : {b : List ℕ} {p : ℕ} {f : Forest} → ConflictFree b (node p f) → RootConflict b (node p f) → ⊥
conflict_free_root {p} {f} free r = free (record { subtree = node p f; is_subtree = itself; root = r })

-- ---- a tree whose parts have none

pub conflict_free_leaf : {b : List ℕ} {c : ℕ} → ConflictFree b (leaf c)
conflict_free_leaf {b} {c} h = by_subtree h.is_subtree h.root
  where
    no_root : RootConflict b (leaf c) → ⊥
    no_root = elim [ ]

    by_subtree : {s : Tree} → Subtree s (leaf c) → RootConflict b s → ⊥
    by_subtree itself r = no_root r

pub conflict_free_node : {b : List ℕ} {p : ℕ} {f : Forest}
    → (RootConflict b (node p f) → ⊥) → ((i : ℕ) (t : Tree) → At i f t → ConflictFree b t) → ConflictFree b (node p f)
conflict_free_node {b} {p} {f} root arguments h = by_subtree h.is_subtree h.root
  where
    by_subtree : {s : Tree} → Subtree s (node p f) → RootConflict b s → ⊥
    by_subtree itself r = root r
    by_subtree (below {i} {t} at s) r = arguments i t at (record { subtree = _; is_subtree = s; root = r })
