-- `goes_on` meets its contract.
use Rattle.form.proofs.StepLaws.{short_number}
use Rattle.form.specs.Step.{ShortSpot, goes_on}
use Rattle.form.proofs.goes_on.Goals as goal

pub begun-requires : goal.begun-requires
begun-requires c = short_number _ _ _ _ c.requires c.in-Number.is

pub returns-in-Between : goal.returns-in-Between
unfolding goes_on ShortSpot
returns-in-Between c = cc

pub returns-in-Opened : goal.returns-in-Opened
unfolding goes_on ShortSpot
returns-in-Opened c = cc

pub returns-in-Slash : goal.returns-in-Slash
unfolding goes_on ShortSpot
returns-in-Slash c = cc

pub returns-in-Number : goal.returns-in-Number
unfolding goes_on ShortSpot
returns-in-Number c = cc

pub returns-in-Dash : goal.returns-in-Dash
unfolding goes_on ShortSpot
returns-in-Dash c = cc

pub returns-in-Closed : goal.returns-in-Closed
unfolding goes_on ShortSpot
returns-in-Closed c = cc

pub returns-in-Ending : goal.returns-in-Ending
unfolding goes_on ShortSpot
returns-in-Ending c = cc

pub returns-in-Stuck : goal.returns-in-Stuck
unfolding goes_on ShortSpot
returns-in-Stuck c = cc
