-- `zero_prepared` meets its contract.
use Rattle.common.proofs.ZeroLaws.{all_zero}
use Rattle.prepare.specs.Prepared.{prepared_bytes}
use Rattle.prepare.proofs.zero_prepared.Goals as goal

pub returns : goal.returns
returns c = all_zero prepared_bytes
