-- `reason` meets its contract, by the answer to the plain question.
use mathlib.Core.Path.{sym, ◌∙◌, ap}
use Rattle.std.proofs.lemmas.Result.{err_from_is_err_and}
use Rattle.std.specs.Prelude.{Bool, Ok}
use Rattle.reason.proofs.ReasonLaws.{reasoned_free, reasoned_refused}
use Rattle.reason.proofs.reason.Goals as goal

pub returns-in_err-conflicts : goal.returns-in_err-conflicts
returns-in_err-conflicts c =
    let p = err_from_is_err_and c.from_residual.result c.from_residual.ensures.1 in
    rw (p.1, p.2) (reasoned_refused _ _ _ _ _ _ (sym c.conflict.ensures ∙ c.in_err-conflicts.was))

pub behind-requires : goal.behind-requires
behind-requires c = sym c.conflict.ensures ∙ c.in_ok-conflicts.was ∙ ap (λ (v : Bool). Ok v) c.if-conflicts.true

pub returns : goal.returns
returns c = reasoned_free _ _ _ _ _ (sym c.conflict.ensures ∙ c.in_ok-conflicts.was ∙ ap (λ (v : Bool). Ok v) c.if-conflicts.false)
