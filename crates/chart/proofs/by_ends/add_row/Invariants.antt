-- `add_row` meets its contract: the sums of the starts below k are new; those of later starts are read as they were at entry.
use Prim.Native.Nat.{ℕ, ◌+◌, ◌*◌, max}
use mathlib.Core.Path.{◌≡◌}
use mathlib.Core.List.{List}
use lib.ListN.{get_or}
use Rattle.chart.specs.ByEnds.{place_at}
use Rattle.common.specs.Region.{Region}
use Rattle.theory.specs.Steps.{cap}
use Rattle.chart.specs.Layout.{entry_at}
use Rattle.chart.proofs.by_ends.add_row.Given as goal

-- the sum of start k, and the largest of it and what is live
unfoldable pub Sum : (chart sums : List ℕ) (n row m arg at k v : ℕ) → Type 0
Sum chart sums n row m arg at k v = v ≡ cap (get_or sums (at + k) 0 + entry_at chart (place_at n row k m) * arg)

unfoldable pub Live : (chart sums live : List ℕ) (n row m arg at k v : ℕ) → Type 0
Live chart sums live n row m arg at k v = v ≡ max (get_or live k 0) (cap (get_or sums (at + k) 0 + entry_at chart (place_at n row k m) * arg))

abbrev pub invariant-loop-k : goal.invariant-loop-k
invariant-loop-k l = Region (Sum l.chart l.initial.sums l.n l.row l.m l.argument l.at) 0 l.at l.k l.initial.sums l.sums × Region (Live l.chart l.initial.sums l.initial.live l.n l.row l.m l.argument l.at) 0 0 l.k l.initial.live l.live
