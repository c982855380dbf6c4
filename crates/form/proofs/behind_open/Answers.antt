-- `behind_open` meets its contract.
use Rattle.form.specs.Step.{behind_open}
use Rattle.refusal.proofs.VerdictLaws.{cases}
use Rattle.form.proofs.behind_open.Goals as goal

pub returns-then-byte-eq92 : goal.returns-then-byte-eq92
unfolding behind_open
returns-then-byte-eq92 c = search cases

pub returns-then-byte-eq93 : goal.returns-then-byte-eq93
unfolding behind_open
returns-then-byte-eq93 c = search cases

pub returns : goal.returns
unfolding behind_open
returns c = search cases
