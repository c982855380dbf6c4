-- What the contracts inside cite: rows of marked productions.
use Rattle.std.specs.Prelude.{ℕ, ◌<◌, Bool, false, true, List, ◌↔◌, ◌≡◌, get_or}
use Rattle.order.specs.Order.{Uses}
use Rattle.order.specs.declared.Order.{Order}
use Rattle.order.specs.declared.Order.TheVariants.{Below, Equal, Above, Neither}
use Rattle.priority.specs.Chain.{entry}

-- The row has the productions, of `count` that there are, that m uses more often than n.
abbrev pub Marks : ℕ → (m n : Uses) → List Bool → Type 0
Marks count m n row = (p : ℕ) → (get_or row p false ≡ true) ↔ ((p < count) × (n p < m p))

-- A production of the row is higher than p.
abbrev pub OneAbove : List (List Bool) → List Bool → ℕ → Type 0
OneAbove higher row p = (q : ℕ) × (get_or row q false ≡ true) × (entry higher q p ≡ true)

-- Each production of a row has one of another row above it.
abbrev pub Outweighed : List (List Bool) → (row other : List Bool) → Type 0
Outweighed higher row other = (p : ℕ) → get_or row p false ≡ true → OneAbove higher other p

-- What each answer says of the productions that the first uses more often, and less often, if there is one.
unfoldable pub Weighs : List (List Bool) → (more less : List Bool) → Order → Type 0
Weighs higher more less Below = Outweighed higher more less
Weighs higher more less Equal = ⊥
Weighs higher more less Above = Outweighed higher less more
Weighs higher more less Neither = (Outweighed higher more less → ⊥) × (Outweighed higher less more → ⊥)
