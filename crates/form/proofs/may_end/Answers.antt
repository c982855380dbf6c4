-- `may_end` meets its contract.
use Rattle.form.specs.Step.{may_end_at}
use Rattle.form.proofs.may_end.Goals as goal

pub returns-in-Between : goal.returns-in-Between
unfolding may_end_at
returns-in-Between c = cc

pub returns-in-Opened : goal.returns-in-Opened
unfolding may_end_at
returns-in-Opened c = cc

pub returns-in-Slash : goal.returns-in-Slash
unfolding may_end_at
returns-in-Slash c = cc

pub returns-in-Number : goal.returns-in-Number
unfolding may_end_at
returns-in-Number c = cc

pub returns-in-Dash : goal.returns-in-Dash
unfolding may_end_at
returns-in-Dash c = cc

pub returns-in-Closed : goal.returns-in-Closed
unfolding may_end_at
returns-in-Closed c = cc

pub returns-in-Ending : goal.returns-in-Ending
unfolding may_end_at
returns-in-Ending c = cc

pub returns-in-Stuck : goal.returns-in-Stuck
unfolding may_end_at
returns-in-Stuck c = cc
