-- `visit` meets its contract: each of its two ends is one of the laws of a visit.
use Prim.Native.Nat.{◌+◌}
use native.Mathlib.Omega.{arith}
use Rattle.span.proofs.TableLaws.{part_outside, table_room, table_within, table_fits, table_same, table_rose}
use Rattle.span.proofs.visit.Goals as goal

pub overflow_add-whole : goal.overflow_add-whole
overflow_add-whole c =
    let a = c.args in
    let p = c.requires in
    omega (arith, table_room a.q a.base c.args.links.now.linked c.requires.loads c.requires.founded c.requires.q_in_bounds c.wide.result c.wide.ensures)

pub bounds-cells-whole : goal.bounds-cells-whole
bounds-cells-whole c =
    let a = c.args in
    let p = c.requires in
    omega (arith, table_room a.q a.base c.args.links.now.linked c.requires.loads c.requires.founded c.requires.q_in_bounds c.wide.result c.wide.ensures, c.requires.loads.cells_long)

pub advance-requires : goal.advance-requires
advance-requires c = let a = c.args in
    let p = c.requires in
    record { loads = c.requires.loads; arity_bound = table_room a.q a.base c.args.links.now.linked c.requires.loads c.requires.founded c.requires.q_in_bounds c.wide-2.result c.wide-2.ensures }

pub bounds-cells-whole-2 : goal.bounds-cells-whole-2
bounds-cells-whole-2 c =
    let a = c.args in
    let p = c.requires in
    omega (arith, table_room a.q a.base c.args.links.now.linked c.requires.loads c.requires.founded c.requires.q_in_bounds c.wide.result c.wide.ensures, c.requires.loads.cells_long)

pub returns-then-cells-whole : goal.returns-then-cells-whole
returns-then-cells-whole c bare agree =
    let a = c.args in
    let p = c.requires in
    table_same a.q a.base c.args.links.now.linked c.requires.loads c.requires.founded c.requires.q_in_bounds a.pending.now bare agree c.wide.result c.wide-2.result _ c.wide.ensures c.wide-2.ensures c.advance.ensures (omega (arith, c.args.links.now.linked.few_productions, c.requires.pending_len, c.requires.q_in_bounds.0)) c.if-cells-whole.true

pub overflow_sub-cells : goal.overflow_sub-cells
overflow_sub-cells c =
    let a = c.args in
    let p = c.requires in
    (table_within a.q a.base c.args.links.now.linked c.requires.loads c.requires.founded c.requires.q_in_bounds c.wide-2.result _ c.wide-2.ensures c.advance.ensures (a.base + c.wide.result)).0

pub spread-requires : goal.spread-requires
spread-requires c = let a = c.args in
    let p = c.requires in
    record { args_len = (c.requires.loads.args_long, omega arith); rows_le_row_limit = part_outside c.args.links.now.linked a.q a.links.now.rows c.requires.q_in_bounds.0 c.args.links.now.all_rows; by_index = table_fits a.q a.base c.args.links.now.linked c.requires.loads c.requires.founded c.requires.q_in_bounds c.wide-2.result _ c.wide-2.ensures c.advance.ensures (a.base + c.wide.result) }

pub returns : goal.returns
returns c bare agree =
    let a = c.args in
    let p = c.requires in
    table_rose a.q a.base c.args.links.now.linked c.requires.loads c.requires.founded c.requires.q_in_bounds a.pending.now bare agree c.wide.result c.wide-2.result _ c.wide.ensures c.wide-2.ensures c.advance.ensures _ _ c.if-cells-whole.false c.spread.ensures c.mark.ensures
