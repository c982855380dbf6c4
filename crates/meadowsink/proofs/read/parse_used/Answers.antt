-- `parse_used` meets its contract: the used part of the buffer is its first bytes.
use Rattle.meadowsink.proofs.ViewerLaws.{used_length, used_outcome}
use Rattle.parse.specs.Outcome.{Outcome}
use Rattle.meadowsink.proofs.read.parse_used.Goals as goal

pub slice_bounds-parse-end-2 : goal.slice_bounds-parse-end-2
slice_bounds-parse-end-2 c = used_length c.args.listing.now c.used_part-most.result c.used_part-most.ensures

pub returns : goal.returns
returns c =
    let start = c in
    let parse = c.parse in
    used_outcome start.args.listing.now _ c.used_part-most.ensures (Outcome start.args.book.now start.args.text.now) _ parse.result _ _ parse.ensures
