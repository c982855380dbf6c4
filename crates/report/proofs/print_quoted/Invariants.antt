-- Up to each byte, the quote and the bytes before it have been appended.
use Rattle.std.proofs.Common.{take, ◌++◌, codes, flat_map}
use Rattle.std.specs.Io.KnownBytes.{Appends}
use Rattle.report.specs.Lines.{quoted_byte}
use Rattle.report.proofs.print_quoted.Given as goal

abbrev pub invariant-loop-byte : goal.invariant-loop-byte
invariant-loop-byte g l = Appends (g.W.Write.contents l.fn.out) (g.W.Write.contents l.out) (codes "\"" ++ flat_map quoted_byte (take l.byte-index l.bytes))
