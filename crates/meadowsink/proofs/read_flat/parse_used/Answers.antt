-- `parse_used` meets its contract: the used part of the buffer is its first bytes.
use mathlib.Core.Bool.{Bool}
use mathlib.Core.List.{List}
use mathlib.Core.Path.{subst}
use lib.ListN.{take}
use Rattle.archive.specs.Outcome.{FlatOutcome}
use Rattle.meadowsink.proofs.ViewerLaws.{used_length, used_outcome}
use Rattle.meadowsink.specs.Flat.{root_entries}
use Rattle.meadowsink.specs.Viewer.{Promise}
use Rattle.meadowsink.proofs.read_flat.parse_used.Goals as goal

pub slice_bounds-parse_flat-end-2 : goal.slice_bounds-parse_flat-end-2
slice_bounds-parse_flat-end-2 c = used_length c.args.listing.now c.used_part-most.result c.used_part-most.ensures

pub returns : goal.returns
returns c =
    let start = c in
    let parse = c.parse_flat in
    let entries = c.root_entries in
    let used = c.used_part-most in
    let chart = start.args.chart.now in
    let first = take used.result start.args.listing.now in
    let P : List Bool → Promise = λ roots. FlatOutcome start.args.flat.now roots start.args.text.now in
    used_outcome start.args.listing.now used.result used.ensures (P (root_entries start.args.roots.now)) chart parse.result parse.new.chart parse.new.listing
    (subst (λ (roots : List Bool). P roots chart first parse.result parse.new.chart parse.new.listing) entries.ensures parse.ensures)
