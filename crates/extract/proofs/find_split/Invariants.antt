-- `find_split` meets its contract: there is a split no later than m.
use Prim.Native.Nat.{ℕ, ◌≤◌}
use Rattle.extract.proofs.SplitLaws.{SplitAt}
use Rattle.extract.proofs.find_split.Given as goal

abbrev pub invariant-loop-m : goal.invariant-loop-m
invariant-loop-m l = (l.m ≤ l.j) × ((n : ℕ) × (l.i ≤ n) × (n ≤ l.m) × SplitAt l.tables l.text l.chart l.p l.d l.i n l.j)

abbrev pub decreases-loop-m : goal.decreases-loop-m
decreases-loop-m l = l.m
