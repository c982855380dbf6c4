-- `parse` meets its contract: the grammar's refusals first.
use mathlib.Core.Path.{sym, ◌∙◌}
use Rattle.parse.proofs.OutcomeLaws.{grammar_refused, grammar_accepted}
use Rattle.priority.proofs.CheckLaws.{accepted_formed}
use Rattle.parse.proofs.parse.Goals as goal

pub parse_accepted-requires : goal.parse_accepted-requires
parse_accepted-requires c = accepted_formed c.args.book.now (sym c.check_grammar.ensures ∙ c.in-Ok.is)

pub returns-in-Err : goal.returns-in-Err
returns-in-Err c =
    let start = c in
    grammar_refused start.args.book.now start.args.text.now start.args.chart.now start.args.listing.now _ (sym c.check_grammar.ensures ∙ c.in-Err.is)

pub returns-in-Ok : goal.returns-in-Ok
returns-in-Ok c =
    let start = c in
    let parse-accepted = c.parse_accepted in
    grammar_accepted start.args.book.now start.args.text.now start.args.chart.now start.args.listing.now parse-accepted.result parse-accepted.new.chart parse-accepted.new.listing (sym c.check_grammar.ensures ∙ c.in-Ok.is) parse-accepted.ensures
