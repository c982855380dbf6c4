-- `write_tree` meets its contract: the first level is opened and its number written, and the rest follows.
use mathlib.Core.Path.{◌≡◌}
use native.Mathlib.Omega.{arith}
use lib.ListN.{length}
use borrow.Author.Rules.{rules}
use Rattle.extract.proofs.StepLaws.{started_writing, started}
use Rattle.levels.specs.Levels.{end_count}
use Rattle.tables.proofs.LayoutLaws.{counts_few}
use Rattle.extract.proofs.write_tree.Goals as goal

pub open_level-requires : goal.open_level-requires
open_level-requires c =
    let start = c in
    (omega arith, omega (arith, counts_few start.args.tables.now start.requires.walkable.fits.tables, start.requires.q_in_bounds.0))

pub put_number-next-requires : goal.put_number-next-requires
put_number-next-requires c =
    let start = c in
    (omega (arith, counts_few start.args.tables.now start.requires.walkable.fits.tables, start.requires.q_in_bounds.0), omega arith)

pub write_levels-requires : goal.write_levels-requires
write_levels-requires c =
    let start = c in
    let find-splits = c.find_splits-ends in
    let open-level = c.open_level in
    let put-number = c.put_number-next in
    let a = start.args in
    let long : length find-splits.result ≡ end_count = search rules in
    started start.requires.walkable a.q a.levels.now open-level.new.levels find-splits.result a.out.now put-number.new.out put-number.result start.requires.q_in_bounds.0 start.requires.q_in_bounds.1 start.requires.level_bytes_in_bounds long
    find-splits.ensures open-level.ensures put-number.ensures

pub returns : goal.returns
returns c =
    let start = c in
    let find-splits = c.find_splits-ends in
    let open-level = c.open_level in
    let put-number = c.put_number-next in
    let a = start.args in
    let long : length find-splits.result ≡ end_count = search rules in
    let begun = started_writing start.requires.walkable a.q a.levels.now open-level.new.levels find-splits.result a.out.now put-number.new.out put-number.result start.requires.q_in_bounds.0 start.requires.q_in_bounds.1 start.requires.level_bytes_in_bounds long
    find-splits.ensures open-level.ensures put-number.ensures in
    c.write_levels.ensures a.q a.out.now begun
