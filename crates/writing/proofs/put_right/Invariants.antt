-- `put_right` meets its contract: the spaces of the columns passed are put.
use Prim.Native.Nat.{ℕ}
use mathlib.Core.List.{List}
use Rattle.common.specs.Lists.{tabulate}
use Rattle.writing.specs.Bytes.{space}
use Rattle.writing.specs.Put.{Put}
use Rattle.writing.proofs.put_right.Given as goal

abbrev pub spaces : ℕ → List ℕ
spaces n = tabulate n (λ k. space)

abbrev pub invariant-loop : goal.invariant-loop
invariant-loop l = Put (spaces l.counter) l.initial.out l.at l.out l.place
