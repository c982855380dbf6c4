-- `is_within` meets its contract: of the productions below p each is one of those.
use Prim.Native.Nat.{ℕ, ◌<◌}
use mathlib.Core.Bool.{false, true}
use mathlib.Core.Path.{◌≡◌}
use lib.ListN.{get_or}
use Rattle.order.proofs.is_within.Given as goal

abbrev pub invariant-loop-p : goal.invariant-loop-p
invariant-loop-p l = (k : ℕ) → k < l.p → get_or l.these k false ≡ true → get_or l.those k false ≡ true
