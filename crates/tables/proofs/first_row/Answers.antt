-- `first_row` meets its contract: it is the word of production p.
use native.Mathlib.Omega.{arith}
use Rattle.tables.proofs.LayoutLaws.{counts_long}
use Rattle.tables.proofs.first_row.Goals as goal

pub overflow_add-result : goal.overflow_add-result
overflow_add-result c =
    let start = c in
    omega (arith, counts_long start.args.tables.now start.requires.0.long start.requires.0.few_productions)

pub offset_bounds-tables-p : goal.offset_bounds-tables-p
offset_bounds-tables-p c =
    let start = c in
    omega (arith, counts_long start.args.tables.now start.requires.0.long start.requires.0.few_productions)

pub bounds-tables-p : goal.bounds-tables-p
bounds-tables-p c =
    let start = c in
    omega (arith, counts_long start.args.tables.now start.requires.0.long start.requires.0.few_productions)

pub returns : goal.returns
returns c =
    let start = c in
    start.requires.0.rows start.args.p (omega (arith, counts_long start.args.tables.now start.requires.0.long start.requires.0.few_productions))
