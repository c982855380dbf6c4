-- `char_fits` meets its contract: one character, and its bit in the slot's set.
use Prim.Native.Nat.{◌+◌}
use native.Mathlib.Omega.{arith}
use borrow.Author.Tests.{eq-eqb}
use Rattle.tables.specs.Layout.{slot}
use Rattle.extract.proofs.char_fits.Goals as goal

pub overflow_mul-p : goal.overflow_mul-p
unfolding slot
overflow_mul-p c = omega arith

pub overflow_add-p : goal.overflow_add-p
unfolding slot
overflow_add-p c = omega arith

pub takes_char-requires : goal.takes_char-requires
unfolding slot
takes_char-requires c = omega arith

pub returns-then-m-j : goal.returns-then-m-j
unfolding slot
returns-then-m-j c = rw (eq-eqb (c.args.m + 1) c.args.j c.if-m-j.true) c.takes_char.ensures
