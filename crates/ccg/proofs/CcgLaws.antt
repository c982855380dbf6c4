-- What the class of a tree says: only which number its root has.
use Prim.Native.Nat.{ℕ}
use mathlib.Core.Path.{◌≡◌}
use mathlib.Core.Bool.{true}
use mathlib.Core.List.{List}
use Rattle.ccg.specs.Ccg.{Class, Line, Generated}
use Rattle.theory.specs.Tree.{Tree, leaf, node, production_number}

-- the number at the root: a character, or that of a production
abbrev pub root_number : Tree → ℕ
root_number (leaf c) = c
root_number (node p f) = production_number p

-- the class of a tree matters at the root only
pub generated_class : (g : List Line) (cc₁ cc₂ : Class) (t : Tree) → Generated g cc₁ t → (cc₁ (root_number t) ≡ true → cc₂ (root_number t) ≡ true) → Generated g cc₂ t
unfolding Generated
generated_class g cc₁ cc₂ (leaf c) h k = (k h.0, h.1)
generated_class g cc₁ cc₂ (node p f) h k = (h.0, h.1, k h.2, h.3)

pub generated_root : (g : List Line) (cc : Class) (t : Tree) → Generated g cc t → cc (root_number t) ≡ true
unfolding Generated
generated_root g cc (leaf c) h = h.0
generated_root g cc (node p f) h = h.2
