-- `flatten` meets its contract: the classes of the productions passed are written.
use mathlib.Core.Path.{◌≡◌}
use Rattle.flatten.specs.Tables.{WrittenBelow}
use Rattle.layout.specs.Layout.{production_at}
use Rattle.tables.specs.Layout.{slot}
use Rattle.flatten.proofs.flatten.Given as goal

abbrev pub invariant-loop-p : goal.invariant-loop-p
invariant-loop-p l = WrittenBelow l.book (slot l.p 0) l.tables × (l.at ≡ production_at l.book l.p)
