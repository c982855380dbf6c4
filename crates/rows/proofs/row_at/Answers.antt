-- `row_at` meets its contract.
use mathlib.Core.Path.{refl}
use Rattle.rows.specs.Table.{unpacked}
use Rattle.rows.proofs.row_at.Goals as goal

pub returns : goal.returns
unfolding unpacked
returns c = rw c.number_at.ensures refl
