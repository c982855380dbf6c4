-- `last_from` meets its contract.
use Rattle.form.specs.Step.{last_from}
use Rattle.refusal.proofs.VerdictLaws.{cases}
use Rattle.form.proofs.last_from.Goals as goal

pub returns-then-low-lt-FIRST_PRODUCTION : goal.returns-then-low-lt-FIRST_PRODUCTION
unfolding last_from
returns-then-low-lt-FIRST_PRODUCTION c = search cases

pub returns : goal.returns
unfolding last_from
returns c = search cases
