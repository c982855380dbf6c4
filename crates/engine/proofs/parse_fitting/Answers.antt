-- `parse_fitting` meets its contract: none, several, or the only one is written.
use mathlib.Core.Path.{◌≡◌, subst}
use native.Mathlib.Omega.{arith}
use Rattle.engine.proofs.EngineLaws.{answered_none, answered_several}
use Rattle.engine.specs.Roots.{ParseBy}
use Rattle.theory.specs.Counts.{Counts}
use Rattle.engine.proofs.parse_fitting.Goals as goal

pub returns-then-found-eq0 : goal.returns-then-found-eq0
returns-then-found-eq0 c =
    let start = c in
    let count-parses = c.count_parses-found in
    let n = count-parses.ensures in
    record { chart = count-parses.ensures.chart_after; answer = answered_none (ParseBy start.args.tables.now start.args.text.now) count-parses.result start.args.listing.now count-parses.ensures.counts c.if-found-eq0.true }

pub returns-then-found-gt1 : goal.returns-then-found-gt1
returns-then-found-gt1 c =
    let start = c in
    let count-parses = c.count_parses-found in
    let n = count-parses.ensures in
    record { chart = count-parses.ensures.chart_after; answer = answered_several (ParseBy start.args.tables.now start.args.text.now) count-parses.result start.args.listing.now count-parses.ensures.counts c.if-found-gt1.true }

pub write_parse-requires : goal.write_parse-requires
write_parse-requires c = let start = c in
    let count-parses = c.count_parses-found in
    let n = count-parses.ensures in
    let one : count-parses.result ≡ 1 = omega arith in
    record { filled = count-parses.ensures.filled; counts = subst (Counts (ParseBy start.args.tables.now start.args.text.now)) one count-parses.ensures.counts }
