-- `no_pairs` meets its contract.
use Rattle.layout.specs.Limits.{production_limit}
use Rattle.priority.proofs.TableLaws.{entry_none, square_none}
use Rattle.priority.proofs.no_pairs.Goals as goal

pub returns : goal.returns
returns c = record { square = square_none production_limit; by_index = entry_none production_limit }
