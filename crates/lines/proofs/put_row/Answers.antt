-- `put_row` meets its contract, column by column.
use native.Mathlib.Omega.{arith}
use Rattle.common.proofs.ListLaws.{length_tabulate}
use Rattle.lines.proofs.TextLaws.{columns_length}
use Rattle.lines.specs.Text.{row_text, text_width, shown}
use Rattle.writing.proofs.PutLaws.{put_append}
use Rattle.lines.proofs.put_row.Goals as goal

pub put_column-depth-requires : goal.put_column-depth-requires
put_column-depth-requires c =
    let start = c in
    let columns = columns_length start.args.text.now start.args.row start.requires.row_fits in
    omega (arith, start.requires.line_length_bound)

pub put_column-number-requires : goal.put_column-number-requires
put_column-number-requires c =
    let start = c in
    let columns = columns_length start.args.text.now start.args.row start.requires.row_fits in
    let number = c.put_column-depth.ensures.next in
    omega (arith, start.requires.line_length_bound)

pub put_column-start-requires : goal.put_column-start-requires
put_column-start-requires c =
    let start = c in
    let columns = columns_length start.args.text.now start.args.row start.requires.row_fits in
    let number = c.put_column-depth.ensures.next in
    let from = c.put_column-number.ensures.next in
    omega (arith, start.requires.line_length_bound)

pub put_column-end-requires : goal.put_column-end-requires
put_column-end-requires c =
    let start = c in
    let columns = columns_length start.args.text.now start.args.row start.requires.row_fits in
    let number = c.put_column-depth.ensures.next in
    let from = c.put_column-number.ensures.next in
    let to = c.put_column-start.ensures.next in
    omega (arith, start.requires.line_length_bound)

pub put_text-shown-requires : goal.put_text-shown-requires
put_text-shown-requires c =
    let start = c in
    let columns = columns_length start.args.text.now start.args.row start.requires.row_fits in
    let number = c.put_column-depth.ensures.next in
    let from = c.put_column-number.ensures.next in
    let to = c.put_column-start.ensures.next in
    let text = c.put_column-end.ensures.next in
    (start.requires.row_fits.within, omega (arith, start.requires.row_fits.start), omega (arith, start.requires.line_length_bound))

pub put-requires : goal.put-requires
put-requires c =
    let start = c in
    let columns = columns_length start.args.text.now start.args.row start.requires.row_fits in
    let number = c.put_column-depth.ensures.next in
    let from = c.put_column-number.ensures.next in
    let to = c.put_column-start.ensures.next in
    let text = c.put_column-end.ensures.next in
    let feed = c.put_text-shown.ensures.next in
    let shown-length = length_tabulate text_width (shown start.args.text.now start.args.row.start start.args.row.end) in
    omega (arith, start.requires.line_length_bound)

pub returns : goal.returns
unfolding row_text
returns c =
    let depth = c.put_column-depth.ensures in
    let number = c.put_column-number.ensures in
    let start = c.put_column-start.ensures in
    let end = c.put_column-end.ensures in
    let text = c.put_text-shown.ensures in
    let feed = c.put.ensures in
    let numbers = put_append _ _ _ _ _ _ _ _ (put_append _ _ _ _ _ _ _ _ (put_append _ _ _ _ _ _ _ _ depth number) start) end in
    put_append _ _ _ _ _ _ _ _ (put_append _ _ _ _ _ _ _ _ numbers text) feed
