-- `step` meets its contract.
use mathlib.Core.Path.{◌∙◌, ap}
use Rattle.form.proofs.StepLaws.{small_number, small_ending}
use Rattle.form.specs.Step.{state, SmallSpot, step_at}
use Rattle.form.proofs.step.Goals as goal

pub in_number-requires : goal.in_number-requires
in_number-requires c = small_number _ _ _ _ _ c.requires.spot c.in-Number.is

pub in_ending-requires : goal.in_ending-requires
in_ending-requires c = small_ending _ _ _ c.requires.spot c.in-Ending.is

pub returns-in-Between : goal.returns-in-Between
unfolding step_at SmallSpot
returns-in-Between c = cc

pub returns-in-Opened : goal.returns-in-Opened
unfolding step_at SmallSpot
returns-in-Opened c = cc

pub returns-in-Slash : goal.returns-in-Slash
unfolding step_at SmallSpot
returns-in-Slash c = cc

pub returns-in-Number : goal.returns-in-Number
unfolding step_at SmallSpot
returns-in-Number c =
    let start = c in
    c.at-in-Number.ensures ∙ rw c.in-Number.is (ap (state start.args.state.line start.args.state.argument) c.in_number.ensures)

pub returns-in-Dash : goal.returns-in-Dash
unfolding step_at SmallSpot
returns-in-Dash c = cc

pub returns-in-Closed : goal.returns-in-Closed
unfolding step_at SmallSpot
returns-in-Closed c = cc

pub returns-in-Ending : goal.returns-in-Ending
unfolding step_at SmallSpot
returns-in-Ending c = cc

pub returns-in-Stuck : goal.returns-in-Stuck
unfolding step_at SmallSpot
returns-in-Stuck c = cc
