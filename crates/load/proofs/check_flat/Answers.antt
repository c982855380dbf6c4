-- `check_flat` meets its contract.
use Rattle.load.proofs.LoadLaws.{loaded_checked}
use Rattle.load.proofs.check_flat.Goals as goal

pub returns : goal.returns
returns c = loaded_checked _ _ _ c.load.ensures
