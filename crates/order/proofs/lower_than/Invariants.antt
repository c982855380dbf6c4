-- `lower_than` meets its contract: of the productions below q, those of the row are higher than each production marked.
use Prim.Native.Nat.{ℕ, ◌<◌}
use mathlib.Core.Bool.{Bool, false, true}
use mathlib.Core.List.{List}
use mathlib.Core.Logic.{◌↔◌}
use mathlib.Core.Path.{◌≡◌}
use lib.ListN.{get_or}
use Rattle.priority.specs.Chain.{entry}
use Rattle.order.proofs.lower_than.Given as goal

-- one of these below n is higher than p
unfoldable pub OneOf : List (List Bool) → (these : List Bool) → (n p : ℕ) → Type 0
OneOf higher these n p = (q : ℕ) × (q < n) × (get_or these q false ≡ true) × (entry higher q p ≡ true)

abbrev pub invariant-loop-q : goal.invariant-loop-q
invariant-loop-q l = (p : ℕ) → (get_or l.lower p false ≡ true) ↔ OneOf l.higher l.these l.q p
