-- `put_row` meets its contract.
use mathlib.Core.Path.{refl}
use Rattle.rows.specs.Table.{packed}
use Rattle.rows.proofs.put_row.Goals as goal

pub returns : goal.returns
unfolding packed
returns c = refl
