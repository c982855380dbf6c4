-- `bare_args` meets its contract: a character stands between i and j only if they are neighbours.
use Prim.Native.Nat.{ℕ, ◌+◌}
use mathlib.Core.Bool.{◌&&◌}
use lib.Dec.{eqb}
use lib.ListN.{get_or}
use borrow.Author.Tests.{eq-eqb}
use Rattle.std.proofs.Common.{rules}
use Rattle.common.specs.Below.{bit_of}
use Rattle.tables.specs.Layout.{slot, takes_char}
use Rattle.column.proofs.bare_args.Goals as goal

pub returns : goal.returns
unfolding slot
returns c =
    let a = c.args in
    c.fill_rows.ensures (λ (p d : ℕ). bit_of (eqb (a.i + 1) a.j && takes_char a.tables.now (slot p d) (get_or a.text.now a.i 0))) (λ p d r l m e. rw (eq-eqb (a.i + 1) a.j c.if-i-j.false) (search rules))
