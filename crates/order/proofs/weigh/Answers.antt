-- `weigh` meets its contract: it is asked first whether the one is outweighed, then whether the other is.
use mathlib.Core.Path.{sym, ◌∙◌}
use mathlib.Core.Bool.{false≢true}
use Rattle.order.specs.Rows.{Weighs}
use Rattle.order.proofs.weigh.Goals as goal

pub returns-then-is_outweighed : goal.returns-then-is_outweighed
unfolding Weighs
returns-then-is_outweighed c = c.is_outweighed.ensures.0 c.if-is_outweighed.true

pub returns-then-is_outweighed-2 : goal.returns-then-is_outweighed-2
unfolding Weighs
returns-then-is_outweighed-2 c = c.is_outweighed-2.ensures.0 c.if-is_outweighed-2.true

pub returns : goal.returns
unfolding Weighs
returns c =
    let first = c in (
      (λ h. false≢true (sym first.if-is_outweighed.false ∙ first.is_outweighed.ensures.1 h)),
      (λ h. false≢true (sym c.if-is_outweighed-2.false ∙ c.is_outweighed-2.ensures.1 h)),
    )
