-- `put_runs` meets its contract: the ranges up to `from` are put.
use Prim.Native.Nat.{ℕ, ◌+◌, ◌-◌, ◌*◌}
use mathlib.Core.Bool.{Bool}
use mathlib.Core.List.{List}
use Rattle.ccg.proofs.RunPutLaws.{RunsPut}
use Rattle.charset.specs.Set.{has, word_bits}
use Rattle.ccg.proofs.put_runs.Given as goal

-- the numbers of the set
abbrev pub numbers : List ℕ → ℕ → ℕ → Bool
numbers words first n = has words (n - first)

abbrev pub invariant-loop-low : goal.invariant-loop-low
invariant-loop-low g l = RunsPut (numbers l.fn.set.words l.fn.first) l.fn.first (l.fn.first + g.row.W * word_bits) l.fn.out l.fn.at l.from l.out l.place

abbrev pub decreases-loop-low : goal.decreases-loop-low
decreases-loop-low g l = l.fn.first + g.row.W * word_bits - l.from
