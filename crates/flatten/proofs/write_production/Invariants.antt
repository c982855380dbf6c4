-- `write_production` meets its contract: the classes of the arguments passed are written.
use Rattle.flatten.specs.Tables.{WrittenBelow}
use Rattle.tables.specs.Layout.{slot}
use Rattle.flatten.proofs.write_production.Given as goal

abbrev pub invariant-loop-i : goal.invariant-loop-i
invariant-loop-i l = WrittenBelow l.book (slot l.p l.i) l.tables
