-- What stands around a place of a tree. A list of trees put there makes a whole one, and a different one for a different list.
use Prim.Native.Nat.{ℕ, suc, ◌+◌, ◌≤◌}
use mathlib.Core.Path.{◌≡◌}
use mathlib.Core.List.{List}
use native.Mathlib.Omega.{arith}
use Rattle.theory.specs.Grammar.{Grammar, Spells}
use Rattle.theory.specs.Paths.{Under, last, before}
use Rattle.theory.specs.Tree.{Tree, leaf, node, Forest, none, ◌▷◌}

-- How many productions a tree has; a list of trees.
unfoldable mutual
  nodes_of : Tree → ℕ
  nodes_of (leaf c) = 0
  nodes_of (node q f) = suc (nodes f)

  pub nodes : Forest → ℕ
  nodes none = 0
  nodes (f ▷ t) = nodes f + nodes_of t

-- The first d arguments of p from i to j, but for the list of trees of a production q from m to e.
pub record Around (g : Grammar) (w : List ℕ) (p d i j q m e : ℕ) : Type 0 where
  pub plug : Forest → Forest
  pub spelled : (h : Forest) → Spells g w q h (g.arity q) m e → Spells g w p (plug h) d i j
  pub different : (h k : Forest) → plug h ≡ plug k → h ≡ k
  -- how many productions stand around it
  pub extra : ℕ
  pub larger : (h : Forest) → nodes (plug h) ≡ extra + nodes h

last_same : (f h k : Forest) (q : ℕ) → (f ▷ node q h) ≡ (f ▷ node q k) → h ≡ k
last_same f h k q e = cc

front_same : (f h : Forest) (t : Tree) → (f ▷ t) ≡ (h ▷ t) → f ≡ h
front_same f h t e = cc

-- nothing around it
pub around_none : (g : Grammar) (w : List ℕ) (q m e : ℕ) → Around g w q (g.arity q) m e q m e
around_none g w q m e = record { plug = λ h. h; spelled = λ h s. s; different = λ h k x. x; extra = 0; larger = λ h. omega arith }

-- one around another
pub around_both : (g : Grammar) (w : List ℕ) (p d i j q m e r a b : ℕ) → Around g w p d i j q m e → Around g w q (g.arity q) m e r a b → Around g w p d i j r a b
around_both g w p d i j q m e r a b x y =
    record {
      plug = λ h. x.plug (y.plug h);
      spelled = λ h s. x.spelled (y.plug h) (y.spelled h s);
      different = λ h k s. y.different h k (x.different (y.plug h) (y.plug k) s);
      extra = x.extra + y.extra;
      larger = λ h. omega (arith, x.larger (y.plug h), y.larger h);
    }

-- one level: at least the production itself is more
pub around_under : (g : Grammar) (w : List ℕ) (p d i j q m e : ℕ) → Under g w p d i j q m e → (x : Around g w p d i j q m e) × (1 ≤ x.extra)
unfolding Spells nodes
around_under g w p d i j q m e (last f s l b) = (
  record {
    plug = λ h. f ▷ node q h;
    spelled = λ h r. (m, s, (l, b, r));
    different = λ h k x. last_same f h k q x;
    extra = suc (nodes f);
    larger = λ h. omega arith;
  },
  omega arith,
)
around_under g w p d i j q m e (before {d = d'} {k = k} t u s) =
    let (x, o) = around_under g w p d' i k q m e u in (
      record {
        plug = λ h. x.plug h ▷ t;
        spelled = λ h r. (k, x.spelled h r, s);
        different = λ h l y. x.different h l (front_same (x.plug h) (x.plug l) t y);
        extra = x.extra + nodes_of t;
        larger = λ h. omega (arith, x.larger h);
      },
      omega arith,
    )
