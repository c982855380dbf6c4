-- `number_bit` meets its contract.
use Rattle.refusal.proofs.VerdictLaws.{cases}
use Rattle.load.specs.Held.{number_bit}
use Rattle.load.proofs.number_bit.Goals as goal

pub returns-then-n-lt-CHARACTERS : goal.returns-then-n-lt-CHARACTERS
unfolding number_bit
returns-then-n-lt-CHARACTERS c = search cases

pub returns : goal.returns
unfolding number_bit
returns c = search cases
