-- `find_splits` meets its contract: from the right, the places from d on are found.
use Rattle.extract.proofs.SplitLaws.{SplitsLeft}
use Rattle.extract.proofs.find_splits.Given as goal

abbrev pub invariant-loop-d : goal.invariant-loop-d
invariant-loop-d l = SplitsLeft l.tables l.text l.chart l.p l.i l.j l.d l.ends
