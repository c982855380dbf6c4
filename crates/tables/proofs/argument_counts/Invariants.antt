-- `argument_counts` meets its contract: the counts of the productions passed are copied.
use Prim.Native.Nat.{ℕ, ◌<◌}
use mathlib.Core.Path.{◌≡◌}
use lib.ListN.{length, get_or}
use Rattle.layout.specs.Limits.{production_limit}
use Rattle.tables.specs.Layout.{counts_of, arity_in}
use Rattle.tables.proofs.argument_counts.Given as goal

abbrev pub invariant-loop-p : goal.invariant-loop-p
invariant-loop-p l = ((k : ℕ) → k < l.p → get_or l.counts k 0 ≡ arity_in (counts_of l.tables) k) × (length l.counts ≡ production_limit)
