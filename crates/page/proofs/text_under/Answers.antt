-- `text_under` meets its contract: the part from the row's start to its end.
use Rattle.common.proofs.ListLaws.{part_slice}
use Rattle.page.proofs.text_under.Goals as goal

pub returns : goal.returns
returns c =
    let row = c.row_under-row.result in
    let under = c.row_under-row.ensures in
    record { row = row; under = under; is_part = part_slice c.args.text.now row.start row.end under.ordered under.within }
