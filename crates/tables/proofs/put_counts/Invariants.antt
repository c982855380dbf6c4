-- `put_counts` meets its contract: the counts of the productions passed are written, and the rows up to the next.
use Prim.Native.Nat.{◌*◌, ◌≤◌}
use mathlib.Core.Path.{◌≡◌}
use Rattle.common.specs.Bytes.{byte_values}
use Rattle.tables.specs.Layout.{arity_in, row_count}
use Rattle.tables.specs.Put.{CountsPut, ClassesKept}
use Rattle.tables.proofs.put_counts.Given as goal

abbrev pub invariant-loop-p : goal.invariant-loop-p
invariant-loop-p l = CountsPut l.counts l.p l.tables × ((l.row ≡ row_count (arity_in l.counts) l.p) × (l.row ≤ l.p * byte_values)) × ClassesKept l.initial.tables l.tables
