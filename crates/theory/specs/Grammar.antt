-- A grammar as the theory of parsing sees it: productions by number, how many arguments each has, and what may stand there.
-- A grammar with conflicts let through, one with conflicts barred, and a character class grammar are all of this form.
use Rattle.std.specs.Prelude.{ℕ, zero, suc, ◌+◌, ◌≤◌, ◌<◌, ◌≡◌, Bool, true, List, length, get_or}
use Rattle.theory.specs.Tree.{Tree, leaf, node, Forest, none, ◌▷◌, yields}

pub record Grammar : Type 0 where
  -- productions are 0, 1, … count - 1
  pub count : ℕ
  -- how many arguments production p has
  pub arity : ℕ → ℕ
  -- character c may stand as argument d of production p
  pub chars : ℕ → ℕ → ℕ → Bool
  -- production q may stand as argument d of production p
  pub subs : ℕ → ℕ → ℕ → Bool

-- ---- trees that spell a part of a text

-- The list f has a tree for each of the first d arguments of production p, and they spell the text w from place i to place j.
-- With one tree more there is a place m between: the lists before it end there.
unfoldable mutual
  pub Spells : Grammar → List ℕ → ℕ → Forest → ℕ → ℕ → ℕ → Type 0
  Spells g w p none zero i j = (i ≡ j) × (j ≤ length w)
  Spells g w p none (suc d) i j = ⊥
  Spells g w p (f ▷ t) zero i j = ⊥
  Spells g w p (f ▷ t) (suc d) i j = (m : ℕ) × Spells g w p f d i m × Stands g w p d t m j

  -- tree t stands as argument d of production p, and spells w from m to j
  pub Stands : Grammar → List ℕ → ℕ → ℕ → Tree → ℕ → ℕ → Type 0
  Stands g w p d (leaf c) m j = (m + 1 ≡ j) × (j ≤ length w) × (get_or w m 0 ≡ c) × (g.chars p d c ≡ true)
  Stands g w p d (node q f) m j = (q < g.count) × (g.subs p d q ≡ true) × Spells g w q f (g.arity q) m j

-- ---- trees of the grammar, whatever they spell

unfoldable mutual
  -- the list f has a tree for each of the first d arguments of production p
  pub Derived : Grammar → ℕ → Forest → ℕ → Type 0
  Derived g p none zero = Unit {0}
  Derived g p none (suc d) = ⊥
  Derived g p (f ▷ t) zero = ⊥
  Derived g p (f ▷ t) (suc d) = Derived g p f d × DerivedAt g p d t

  -- tree t may stand as argument d of production p
  pub DerivedAt : Grammar → ℕ → ℕ → Tree → Type 0
  DerivedAt g p d (leaf c) = g.chars p d c ≡ true
  DerivedAt g p d (node q f) = (q < g.count) × (g.subs p d q ≡ true) × Derived g q f (g.arity q)

-- ---- parses

-- A parse of the text w: a tree of the grammar whose root is one of the productions allowed there, and that spells w.
unfoldable pub Parse : Grammar → (ℕ → Bool) → List ℕ → Tree → Type 0
Parse g roots w (leaf c) = ⊥
Parse g roots w (node p f) = (p < g.count) × (roots p ≡ true) × Derived g p f (g.arity p) × (yields f ≡ w)
