-- `same_arguments` meets its contract: no two arguments passed differ.
use Prim.Native.Nat.{ℕ, ◌+◌}
use mathlib.Core.Path.{◌≡◌}
use mathlib.Core.Bool.{Bool, true}
use mathlib.Core.List.{List}
use Rattle.classes.specs.Classes.{same_argument}
use Rattle.common.specs.Below.{all_below}
use Rattle.layout.specs.Layout.{byte_at}
use Rattle.grammar.proofs.check.same_arguments.Given as goal

unfoldable pub same : List ℕ → ℕ → ℕ → ℕ → Bool
same b at other i = same_argument b (byte_at b (at + i)) (byte_at b (other + i))

abbrev pub invariant-loop-i : goal.invariant-loop-i
invariant-loop-i l = all_below l.i (same l.book l.at l.other) ≡ true
