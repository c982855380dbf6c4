-- `prepare_by_counts` meets its contract: the links, the argument counts, the empty span, and what is behind it.
use native.Mathlib.Omega.{arith}
use Rattle.prepare.proofs.PreparedLaws.{copies_prepared}
use Rattle.tables.proofs.LayoutLaws.{counts_few}
use Rattle.prepare.proofs.prepare_by_counts.Goals as goal

pub returns : goal.returns
returns c =
    let t = c.args.tables.now in
    copies_prepared t c.prepare_links.new.prepared c.args.counts.now _ c.settle_by_links.new.empty _ c.settle_by_links.new.back _ c.copy_from_slice.ensures.after c.copy_from_slice-2.ensures.after c.copy_from_slice-3.ensures.after
    (counts_few t c.requires.parser_tables) c.requires.counts_value (omega arith) (omega arith) c.prepare_links.ensures c.settle_by_links.ensures
