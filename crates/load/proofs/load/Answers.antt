-- `load` meets its contract.
use mathlib.Core.Path.{sym}
use lib.Seq.{length-take-le}
use Rattle.std.proofs.lemmas.Result.{err_from_is_err_and}
use Rattle.load.proofs.LoadLaws.{lines_known, known_short, known_few, loaded_refused, loaded_lines}
use Rattle.load.proofs.load.Goals as goal

pub slice_bounds-counts-end : goal.slice_bounds-counts-end
slice_bounds-counts-end c = (known_short _ _ _ _ (lines_known _ _ _ _ _ c.read_lines.ensures c.in_ok-count.was)).0

pub slice_bounds-with_counts-end : goal.slice_bounds-with_counts-end
slice_bounds-with_counts-end c = sym (length-take-le _ _ (known_short _ _ _ _ (lines_known _ _ _ _ _ c.read_lines.ensures c.in_ok-count.was)).0)

pub with_counts-requires : goal.with_counts-requires
with_counts-requires c =
    let known = lines_known _ _ _ _ _ c.read_lines.ensures c.in_ok-count.was in
    (known.held.long, (known_short _ _ _ _ known).1, known_few _ _ _ _ known)

pub returns-in_err-count : goal.returns-in_err-count
returns-in_err-count c =
    let p = err_from_is_err_and c.from_residual.result c.from_residual.ensures.1 in
    rw (p.1, p.2) (loaded_refused _ _ _ _ _ _ c.read_lines.ensures c.in_err-count.was)

pub returns : goal.returns
returns c =
    let known = lines_known _ _ _ _ _ c.read_lines.ensures c.in_ok-count.was in
    let with-counts = c.with_counts.ensures in
    loaded_lines _ _ _ _ _ _ known c.with_counts.ensures.counts_put c.with_counts.ensures.classes_kept c.with_counts.ensures.value
