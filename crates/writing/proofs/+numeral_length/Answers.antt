-- `numeral_length` meets its contract: a numeral has one digit more than that of the tenth.
use Prim.Native.Nat.{◌/◌}
use mathlib.Core.Path.{sym}
use native.Mathlib.Omega.{arith}
use Rattle.writing.proofs.NumeralLaws.{numeral_length_small, numeral_length_more, numeral_short}
use Rattle.writing.specs.Numeral.{numeral_base}
use Rattle.writing.proofs.+numeral_length.Goals as goal

pub returns-then-n-lt-NUMERAL_BASE : goal.returns-then-n-lt-NUMERAL_BASE
returns-then-n-lt-NUMERAL_BASE t c = sym (numeral_length_small c.args.n c.if-n-lt-NUMERAL_BASE.true)

pub overflow_add-result : goal.overflow_add-result
overflow_add-result t c = omega (arith, numeral_short (c.args.n / numeral_base))

pub returns : goal.returns
returns t c = omega (arith, numeral_length_more c.args.n c.if-n-lt-NUMERAL_BASE.false)
