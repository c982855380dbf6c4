-- `range_count` meets its contract.
use Prim.Native.Nat.{◌+◌}
use mathlib.Core.Path.{◌∙◌, ap}
use lib.ListN.{get_or}
use Rattle.layout.specs.Layout.{range_count}
use Rattle.layout.specs.Limits.{header_length}
use Rattle.layout.proofs.range_count.Goals as goal

pub returns : goal.returns
unfolding range_count
returns c = c.byte_at.ensures ∙ ap (λ (r : _). get_or c.args.book.now (header_length + r + c.args.k) 0) c.production_count.ensures
