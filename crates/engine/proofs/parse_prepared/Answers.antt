-- `parse_prepared` meets its contract: refused, or parsed.
use mathlib.Core.Path.{sym, ◌∙◌}
use Rattle.engine.proofs.OutcomeLaws.{outcome_refused, outcome_accepted}
use Rattle.engine.proofs.RefusalsLaws.{accepted_fits}
use Rattle.engine.specs.Refusals.{text_refusal}
use Rattle.engine.specs.Roots.{parsing_by, TablesOutcome}
use Rattle.engine.proofs.parse_prepared.Goals as goal

pub parse_fitting-requires : goal.parse_fitting-requires
parse_fitting-requires c = let start = c in
    let a = start.args in
    record { chart_fits = accepted_fits a.tables.now a.text.now a.chart.now start.requires.parser_tables (sym c.check_input.ensures ∙ c.in-Ok.is); prepared = start.requires.prepared }

pub returns-in-Err : goal.returns-in-Err
unfolding TablesOutcome
returns-in-Err c =
    let a = c.args in
    outcome_refused (parsing_by a.tables.now a.text.now) a.chart.now a.listing.now (text_refusal a.tables.now a.text.now a.chart.now) _ (sym c.check_input.ensures ∙ c.in-Err.is)

pub returns-in-Ok : goal.returns-in-Ok
unfolding TablesOutcome
returns-in-Ok c =
    let a = c.args in
    let parsed = c.parse_fitting in
    let accepted = sym c.check_input.ensures ∙ c.in-Ok.is in
    outcome_accepted (parsing_by a.tables.now a.text.now) a.chart.now a.listing.now (text_refusal a.tables.now a.text.now a.chart.now) parsed.result parsed.new.chart parsed.new.listing accepted parsed.ensures
