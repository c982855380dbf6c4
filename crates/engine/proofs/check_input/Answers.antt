-- `check_input` meets its contract: the text first, then the chart.
use mathlib.Core.Path.{sym, ◌∙◌}
use Rattle.engine.proofs.RefusalsLaws.{text_short, refused_text, refused_chart, refused_not}
use Rattle.engine.proofs.check_input.Goals as goal
use Rattle.std.proofs.lemmas.Result.{err_from_is_err_and}

pub chart_need-needed-requires : goal.chart_need-needed-requires
chart_need-needed-requires c =
    let start = c in
    (start.requires, text_short start.args.text.now (sym c.check_text.ensures ∙ c.in_ok-check_text.was))

pub returns-then-chart-needed : goal.returns-then-chart-needed
returns-then-chart-needed c =
    let start = c in
    rw c.at.ensures (sym (refused_chart start.args.tables.now start.args.text.now start.args.chart.now c.chart_need-needed.result c.chart_need-needed.ensures (sym c.check_text.ensures ∙ c.in_ok-check_text.was) c.if-chart-needed.true))

pub returns-in_err-check_text : goal.returns-in_err-check_text
returns-in_err-check_text c =
    let start = c in
    let p = err_from_is_err_and c.from_residual.result c.from_residual.ensures.1 in
    rw (p.1, p.2) (sym (refused_text start.args.tables.now start.args.text.now start.args.chart.now (sym c.check_text.ensures ∙ c.in_err-check_text.was)))

pub returns : goal.returns
returns c =
    let start = c in
    sym (refused_not start.args.tables.now start.args.text.now start.args.chart.now c.chart_need-needed.result c.chart_need-needed.ensures (sym c.check_text.ensures ∙ c.in_ok-check_text.was) c.if-chart-needed.false)
