-- `parse_accepted` meets its contract: what the tables promise is carried to the grammar.
use Rattle.charset.proofs.BytesLaws.{bytes_of}
use Rattle.parse.proofs.CarryLaws.{outcome_carried}
use Rattle.parse.proofs.parse_accepted.Goals as goal

pub parse_tables-requires : goal.parse_tables-requires
parse_tables-requires c = c.flatten.ensures.readable

pub returns : goal.returns
returns c =
    let start = c in
    let flatten = c.flatten in
    let parse-tables = c.parse_tables in
    outcome_carried start.args.book.now start.requires (bytes_of start.args.book.now c.type_inv.book) flatten.new.tables flatten.ensures start.args.text.now (bytes_of start.args.text.now c.type_inv.text) start.args.chart.now start.args.listing.now parse-tables.result parse-tables.new.chart parse-tables.new.listing parse-tables.ensures
