-- `ranges_set` meets its contract: the set holds the characters of the ranges passed.
use Prim.Native.Nat.{ℕ, ◌<◌}
use mathlib.Core.Path.{◌≡◌}
use mathlib.Core.Bool.{Bool}
use mathlib.Core.List.{List}
use Rattle.charset.specs.Set.{characters, has, spans}
use Rattle.common.specs.Below.{any_below}
use Rattle.layout.specs.Layout.{low, high}
use Rattle.classes.proofs.ranges_set.Given as goal

-- the characters of the ranges below r
unfoldable pub in_ranges : List ℕ → ℕ → ℕ → ℕ → Bool
in_ranges b k r c = any_below r (λ j. spans (low b k j) (high b k j) c)

abbrev pub invariant-loop-r : goal.invariant-loop-r
invariant-loop-r l = (c : ℕ) → c < characters → has l.set.words c ≡ in_ranges l.book l.k l.r c
