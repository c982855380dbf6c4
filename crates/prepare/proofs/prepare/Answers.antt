-- `prepare` meets its contract: the first of the copied counts are those of the tables.
use mathlib.Core.Path.{◌≡◌, sym}
use native.Mathlib.Omega.{arith}
use lib.ListN.{length}
use lib.Seq.{length-take-le}
use borrow.Author.Rules.{rules}
use Rattle.layout.specs.Limits.{production_limit}
use Rattle.tables.proofs.LayoutLaws.{counts_few, counts_copied}
use Rattle.prepare.proofs.prepare.Goals as goal

pub slice_bounds-counts-end : goal.slice_bounds-counts-end
slice_bounds-counts-end c =
    let start = c in
    let long : length c.argument_counts-counts.result ≡ production_limit = search rules in
    omega (arith, c.production_count-count.ensures, counts_few start.args.tables.now start.requires.parser_tables)

pub slice_bounds-prepare_by_counts-end : goal.slice_bounds-prepare_by_counts-end
slice_bounds-prepare_by_counts-end c =
    let start = c in
    let argument-counts = c.argument_counts-counts in
    let long : length argument-counts.result ≡ production_limit = search rules in
    sym (length-take-le c.production_count-count.result argument-counts.result (omega (arith, c.production_count-count.ensures, counts_few start.args.tables.now start.requires.parser_tables)))

pub prepare_by_counts-requires : goal.prepare_by_counts-requires
prepare_by_counts-requires c = let start = c in
    let argument-counts = c.argument_counts-counts in
    let production-count = c.production_count-count in
    let long : length argument-counts.result ≡ production_limit = search rules in
    record { parser_tables = start.requires.parser_tables; counts_value = counts_copied start.args.tables.now argument-counts.result production-count.result production-count.ensures (omega (arith, production-count.ensures, counts_few start.args.tables.now start.requires.parser_tables)) argument-counts.ensures; all_zero = start.requires.all_zero }
