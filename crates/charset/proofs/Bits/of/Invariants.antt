-- `of` meets its contract: the words below k have the bits of their entries.
use Prim.Native.Nat.{ℕ, ◌+◌, ◌*◌, ◌<◌}
use mathlib.Core.Bool.{Bool, false}
use mathlib.Core.List.{List}
use mathlib.Core.Path.{◌≡◌}
use lib.ListN.{get_or}
use Rattle.charset.specs.Set.{bit, word_bits}
use Rattle.common.specs.Region.{Region}
use Rattle.charset.proofs.Bits.of.Given as goal

unfoldable pub Word : List Bool → ℕ → ℕ → Type 0
Word row k v = (b : ℕ) → b < word_bits → bit v b ≡ get_or row (word_bits * k + b) false

abbrev pub invariant-loop-k : goal.invariant-loop-k
invariant-loop-k g l = Region (Word l.row) 0 0 l.k l.initial.words l.words
