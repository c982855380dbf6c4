-- `meadowsink_sheet` meets its contract: the number is that of the answer, and the areas are as reading the lines leaves them.
use mathlib.Core.Path.{◌∙◌, ap}
use Rattle.meadowsink.proofs.SheetLaws.{sheet_fits}
use Rattle.reply.specs.Reply.{number_of}
use Rattle.meadowsink.proofs.summary.meadowsink_sheet.Goals as goal

pub number-requires : goal.number-requires
number-requires c =
    let a = c.args in
    let read = c.read_sheet in
    rw c.count_reply.ensures (sheet_fits a.book.now a.sheet.now a.chart.now a.summary.now read.result read.new.chart read.new.summary read.ensures)

pub returns : goal.returns
returns c =
    let read = c.read_sheet in
    record { answer = read.result; outcome = read.ensures; is_number = c.number.ensures ∙ ap number_of c.count_reply.ensures }
