-- `count_uses` meets its contract: what was counted, with what is still to come, is all.
use Prim.Native.Nat.{ℕ, ◌+◌, ◌<◌}
use mathlib.Core.List.{List}
use mathlib.Core.Path.{◌≡◌}
use lib.ListN.{length, drop}
use Rattle.compare.specs.Uses.{occurrences}
use Rattle.layout.specs.Limits.{production_limit}
use Rattle.numbers.specs.Numbers.{numbers_of}
use Rattle.order.specs.Order.{counted}
use Rattle.theory.specs.Tree.{production_number}
use Rattle.compare.proofs.count_uses.Given as goal

-- of the first k numbers the productions are counted
unfoldable pub Counting : (numbers : List ℕ) → ℕ → (counts : List ℕ) → Type 0
Counting numbers k counts =
    (length counts ≡ production_limit) × ((p : ℕ) → p < production_limit → counted counts p + occurrences (production_number p) (drop k numbers) ≡ occurrences (production_number p) numbers)

abbrev pub invariant-loop-k : goal.invariant-loop-k
invariant-loop-k l = Counting (numbers_of l.listing) l.k l.counts
