-- `same_words` meets its contract: words are below 2 ^ 64, and there bits decide.
use mathlib.Core.Path.{◌∙◌}
use native.Mathlib.Omega.{arith}
use Rattle.charset.proofs.SameSetLaws.{same_fronts}
use Rattle.charset.proofs.same_words.Goals as goal

pub returns : goal.returns
returns c = c.eq.ensures ∙ same_fronts c.args.v.now c.args.w.now (λ i. omega (arith, c.type_inv.v i)) (λ i. omega (arith, c.type_inv.w i)) c.requires.0 c.requires.1
