-- `argument_count` meets its contract.
use Rattle.layout.specs.Layout.{argument_count}
use Rattle.layout.proofs.argument_count.Goals as goal

pub returns : goal.returns
unfolding argument_count
returns c = c.byte_at.ensures
