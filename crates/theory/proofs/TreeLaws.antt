-- Laws of trees: the numbers of productions, and places of a list of trees.
use Prim.Native.Nat.{ℕ, ◌-◌}
use mathlib.Core.Path.{◌≡◌, subst}
use native.Mathlib.Omega.{arith}
use Rattle.theory.specs.Tree.{Tree, Forest, none, ◌▷◌, production_number, size, At, at_end, further}

pub production_of_number : (q : ℕ) → production_number q - production_number 0 ≡ q
production_of_number q = omega arith

pub at_last : {f : Forest} {t : Tree} {d : ℕ} → size f ≡ d → At d (f ▷ t) t
at_last {f} {t} e = subst (λ (k : ℕ). At k (f ▷ t) t) e at_end

pub at_none : {i : ℕ} {t : Tree} → At i none t → ⊥
at_none = elim [ ]

pub at_more : (P : ℕ → Tree → Type 0) {f : Forest} {t : Tree} → ((i : ℕ) (s : Tree) → At i f s → P i s) → P (size f) t → (i : ℕ) (s : Tree) → At i (f ▷ t) s → P i s
at_more P {f} {t} h z i s at_end = z
at_more P {f} {t} h z i s (further a) = h i s a
