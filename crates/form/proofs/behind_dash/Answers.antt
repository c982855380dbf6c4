-- `behind_dash` meets its contract.
use Rattle.form.specs.Step.{behind_dash}
use Rattle.refusal.proofs.VerdictLaws.{cases}
use Rattle.form.proofs.behind_dash.Goals as goal

pub returns-then-byte-eq92 : goal.returns-then-byte-eq92
unfolding behind_dash
returns-then-byte-eq92 c = search cases

pub returns : goal.returns
unfolding behind_dash
returns c = search cases
