-- `zero_sums` meets its contract.
use Prim.Native.Nat.{◌*◌}
use Rattle.chart.specs.Layout.{places, row_limit}
use Rattle.common.proofs.ZeroLaws.{all_zero}
use Rattle.fill.proofs.zero_sums.Goals as goal

pub returns : goal.returns
returns c = all_zero (row_limit * places)
