-- `without` meets its contract: nothing is taken out, or the others are.
use mathlib.Core.Bool.{and-true}
use mathlib.Core.Path.{sym}
use Rattle.charset.specs.Set.{has}
use Rattle.charset.proofs.Bits.without.Goals as goal

pub returns-then-not-barred : goal.returns-then-not-barred
returns-then-not-barred g c q l = sym (rw c.if-not-barred.true (and-true (has c.args.self.words q)))

pub returns : goal.returns
returns g c q l = rw c.if-not-barred.false (c.minus.ensures q l)
