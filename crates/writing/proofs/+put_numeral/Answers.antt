-- `put_numeral` meets its contract: the digits but the last are those of the tenth, which is less.
use mathlib.Core.Path.{sym, ◌∙◌, ap}
use mathlib.Core.List.{[], ◌∷◌, ◌++◌}
use Prim.Native.Nat.{ℕ, ◌/◌}
use native.Mathlib.Omega.{arith}
use Rattle.writing.proofs.NumeralLaws.{numeral_small, numeral_more, numeral_length_small, numeral_length_more}
use Rattle.writing.proofs.PutLaws.{put_append, put_same}
use Rattle.writing.specs.Numeral.{numeral_base, numeral}
use Rattle.writing.proofs.+put_numeral.Goals as goal

pub put-requires : goal.put-requires
put-requires t c = omega (arith, numeral_length_small c.args.n c.if-n-lt-NUMERAL_BASE.true)

pub returns-then-n-lt-NUMERAL_BASE : goal.returns-then-n-lt-NUMERAL_BASE
returns-then-n-lt-NUMERAL_BASE t c =
    put_same _ _ _ _ _ _ (ap (λ (d : ℕ). d ∷ []) c.digit.ensures ∙ sym (numeral_small c.args.n c.if-n-lt-NUMERAL_BASE.true)) c.put.ensures

pub put_numeral-next-requires : goal.put_numeral-next-requires
put_numeral-next-requires t c = (omega arith, omega (arith, numeral_length_more c.args.n c.if-n-lt-NUMERAL_BASE.false))

pub put-requires-2 : goal.put-requires-2
put-requires-2 t c = omega (arith, numeral_length_more c.args.n c.if-n-lt-NUMERAL_BASE.false)

pub returns : goal.returns
returns t c =
    let n = c.args.n in
    put_same _ _ _ _ _ _ (ap (λ (d : ℕ). numeral (n / numeral_base) ++ (d ∷ [])) c.digit-2.ensures ∙ sym (numeral_more n c.if-n-lt-NUMERAL_BASE.false))
    (put_append _ _ _ _ _ _ _ _ c.put_numeral-next.ensures c.put-2.ensures)
