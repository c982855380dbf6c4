-- `zero_tables` meets its contract.
use Rattle.common.proofs.ZeroLaws.{all_zero}
use Rattle.tables.specs.Layout.{table_words}
use Rattle.tables.proofs.zero_tables.Goals as goal

pub returns : goal.returns
returns c = all_zero table_words
