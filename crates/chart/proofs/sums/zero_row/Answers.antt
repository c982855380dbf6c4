-- `zero_row` meets its contract.
use Rattle.chart.specs.Layout.{row_limit}
use Rattle.common.proofs.ZeroLaws.{all_zero}
use Rattle.chart.proofs.sums.zero_row.Goals as goal

pub returns : goal.returns
returns c = all_zero row_limit
