-- `put_line` meets its contract: the arguments passed are put, each with a space behind it.
use Prim.Native.Nat.{ℕ}
use mathlib.Core.List.{List}
use Rattle.ccg.specs.Ccg.{Class}
use Rattle.ccg.specs.Tables.{table_class}
use Rattle.ccg.specs.Text.{arguments_text}
use Rattle.common.specs.Lists.{tabulate}
use Rattle.tables.specs.Layout.{slot}
use Rattle.writing.specs.Put.{Put}
use Rattle.ccg.proofs.put_line.Given as goal

unfoldable pub classes : List ℕ → ℕ → ℕ → Class
classes t p i = table_class t (slot p i)

-- the text of the first n arguments of production p
unfoldable pub arguments_below : List ℕ → ℕ → ℕ → List ℕ
arguments_below t p n = arguments_text (tabulate n (classes t p))

abbrev pub invariant-loop-i : goal.invariant-loop-i
invariant-loop-i l = Put (arguments_below l.tables l.p l.i) l.initial.out l.at l.out l.place
