-- `behind_class` meets its contract.
use Rattle.form.specs.Step.{behind_class}
use Rattle.refusal.proofs.VerdictLaws.{cases}
use Rattle.form.proofs.behind_class.Goals as goal

pub returns-then-byte-eq32 : goal.returns-then-byte-eq32
unfolding behind_class
returns-then-byte-eq32 c = search cases

pub returns : goal.returns
unfolding behind_class
returns c = search cases
