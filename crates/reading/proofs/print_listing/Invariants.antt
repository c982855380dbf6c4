-- Up to each number, the word and the numbers before it have been appended.
use Rattle.std.proofs.Common.{◌++◌, codes}
use Rattle.std.specs.Io.KnownBytes.{Appends}
use Rattle.reading.specs.Line.{spaced_numbers}
use Rattle.reading.proofs.print_listing.Given as goal

abbrev pub invariant-loop-at : goal.invariant-loop-at
invariant-loop-at g l = Appends (g.W.Write.contents l.fn.out) (g.W.Write.contents l.out) (codes "one" ++ spaced_numbers l.listing l.at)
