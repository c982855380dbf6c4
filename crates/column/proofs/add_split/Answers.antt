-- `add_split` meets its contract: with nothing behind it a row adds nothing.
use mathlib.Core.Path.{◌∙◌, ap}
use Rattle.column.proofs.SumsLaws.{row_added}
use Rattle.theory.specs.Steps.{cap}
use Rattle.column.proofs.add_split.Goals as goal

pub returns : goal.returns
returns c =
    let a = c.args in
    row_added a.n a.row a.m a.argument a.chart.now a.sums.now a.live.now c.capped.result _ _ (c.capped.ensures ∙ ap cap c.wide.ensures) c.add_row.ensures.region c.add_row.ensures.region_2
