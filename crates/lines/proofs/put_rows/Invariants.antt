-- `put_rows` meets its contract: the lines of the numbers passed are put.
use Prim.Native.Nat.{ℕ, ◌*◌}
use mathlib.Core.List.{List}
use mathlib.Core.Path.{◌≡◌}
use lib.ListN.{get_or}
use Rattle.common.specs.Lists.{tabulate}
use Rattle.numbers.specs.Numbers.{numbers_of}
use Rattle.lines.specs.Text.{page_text, line_length}
use Rattle.rows.specs.Table.{unpacked}
use Rattle.rows.specs.declared.Row.{Row}
use Rattle.writing.specs.Put.{Put}
use Rattle.lines.proofs.put_rows.Given as goal

-- the rows of the first k numbers
abbrev pub rows_below : (listing table : List ℕ) (k : ℕ) → List Row
rows_below listing table k = tabulate k (λ j. unpacked (get_or (numbers_of listing) j 0) (get_or table j 0))

abbrev pub invariant-loop-k : goal.invariant-loop-k
invariant-loop-k l = Put (page_text l.text (rows_below l.listing l.table l.k)) l.initial.out 0 l.out l.place × (l.place ≡ line_length * l.k)
