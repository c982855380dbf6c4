-- `shown` meets its contract.
use Prim.Native.Nat.{◌+◌}
use mathlib.Core.Path.{refl}
use borrow.Author.Tests.{lt-ltb, le-ltb}
use Rattle.lines.specs.Text.{shown}
use Rattle.lines.proofs.shown.Goals as goal

pub returns-then-start-c : goal.returns-then-start-c
unfolding shown
returns-then-start-c c =
    let start = c in
    rw (lt-ltb (start.args.start + start.args.c) start.args.end c.if-start-c.true) c.printed.ensures

pub returns : goal.returns
unfolding shown
returns c =
    let start = c in
    rw (le-ltb (start.args.start + start.args.c) start.args.end c.if-start-c.false) refl
