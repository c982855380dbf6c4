-- `spread` meets its contract: the rows below r have risen, the rest is as it was; beyond `rows` nothing rises.
use Prim.Native.Nat.{ℕ, ◌+◌, ◌*◌}
use mathlib.Core.Path.{◌≡◌}
use mathlib.Core.List.{List}
use lib.ListN.{get_or}
use Rattle.common.proofs.FillLaws.{Filled}
use Rattle.span.proofs.spread.Given as goal

-- what row k rises to
unfoldable pub Risen : List ℕ → List ℕ → ℕ → ℕ → ℕ → Type 0
Risen args users by k v = v ≡ get_or args k 0 + by * get_or users k 0

abbrev pub invariant-loop-r : goal.invariant-loop-r
invariant-loop-r l = Filled (Risen l.initial.args l.users l.by) 0 l.initial.args l.r l.args
