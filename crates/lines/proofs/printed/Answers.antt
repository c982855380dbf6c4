-- `printed` meets its contract.
use mathlib.Core.Bool.{and-false}
use mathlib.Core.Path.{refl}
use lib.Dec.{leb}
use borrow.Author.Tests.{le-leb, lt-leb}
use Rattle.lines.specs.Text.{tilde, printed}
use Rattle.writing.specs.Bytes.{space}
use Rattle.lines.proofs.printed.Goals as goal

pub returns-then-byte-lt32 : goal.returns-then-byte-lt32
unfolding printed
returns-then-byte-lt32 c = rw (lt-leb space c.args.byte c.if-byte-lt32.true) refl

pub returns-then-byte-gt126 : goal.returns-then-byte-gt126
unfolding printed
returns-then-byte-gt126 c =
    let start = c in
    rw (lt-leb start.args.byte tilde c.if-byte-gt126.true, and-false (leb space start.args.byte)) refl

pub returns : goal.returns
unfolding printed
returns c =
    let start = c in
    rw (le-leb space start.args.byte c.if-byte-lt32.false, le-leb start.args.byte tilde c.if-byte-gt126.false) refl
