-- Paths downwards through the productions of a tree, and the height of a tree. A parser that writes a tree keeps one level for each production of a path.
use Rattle.std.specs.Prelude.{ℕ, suc, max, ◌<◌, ◌≡◌, true, List}
use Rattle.theory.specs.Grammar.{Grammar, Spells, Stands}
use Rattle.theory.specs.Tree.{Tree, leaf, node, Forest, none, ◌▷◌}

-- How many productions stand one below the other at most.
unfoldable mutual
  pub height : Tree → ℕ
  height (leaf c) = 0
  height (node q f) = suc (heights f)

  pub heights : Forest → ℕ
  heights none = 0
  heights (f ▷ t) = max (heights f) (height t)

-- Production q may stand from m to e among the first d arguments of p, which go from i to j: trees stand before it and behind it.
pub data Under (g : Grammar) (w : List ℕ) (p : ℕ) : (d i j q m e : ℕ) → Type 0 where
  last : {d i j q m : ℕ} (f : Forest) → Spells g w p f d i m → q < g.count → g.subs p d q ≡ true → Under g w p (suc d) i j q m j
  before : {d i k j q m e : ℕ} (t : Tree) → Under g w p d i k q m e → Stands g w p d t k j → Under g w p (suc d) i j q m e

-- A path of n productions downwards: it starts with q₀ from i₀ to j₀ and ends with q from m to e.
pub data Path (g : Grammar) (w : List ℕ) (q₀ i₀ j₀ : ℕ) : (q m e n : ℕ) → Type 0 where
  top : q₀ < g.count → Path g w q₀ i₀ j₀ q₀ i₀ j₀ 1
  down : {p i j q m e n : ℕ} → Path g w q₀ i₀ j₀ p i j n → Under g w p (g.arity p) i j q m e → Path g w q₀ i₀ j₀ q m e (suc n)
