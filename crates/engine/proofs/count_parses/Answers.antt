-- `count_parses` meets its contract: the chart is filled, and its cells at the root count the parses.
use mathlib.Core.Path.{◌∙◌, ap}
use lib.ListN.{length}
use Rattle.engine.proofs.EngineLaws.{fits_kept, filled_all, parses_counted, chart_after}
use Rattle.theory.specs.Steps.{cap}
use Rattle.engine.proofs.count_parses.Goals as goal

pub returns : goal.returns
returns c = let start = c in
    let fill = c.fill in
    let a = start.args in
    let chart = fill.new.chart in
    let counted = fill.ensures.counted_by in
    let fits = fits_kept a.tables.now (length a.text.now) a.chart.now chart fill.auto.chart start.requires.chart_fits in
    let filled = filled_all a.tables.now a.text.now chart fits counted in
    record { counts = parses_counted a.tables.now a.text.now chart filled c.capped.result (c.capped.ensures ∙ ap cap c.root_sum.ensures); filled = filled; chart_after = chart_after a.tables.now a.text.now a.chart.now chart counted fill.auto.chart fits.long_enough fill.ensures.by_index }

pub root_sum-requires : goal.root_sum-requires
root_sum-requires c = fits_kept c.args.tables.now (length c.args.text.now) c.args.chart.now c.fill.new.chart c.fill.auto.chart c.requires.chart_fits
