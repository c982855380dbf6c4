-- `begin` meets its contract: the productions below p have their 1, and p's rows begin at `base`.
use native.Mathlib.Omega.{arith}
use native.Mathlib.Nat.{le_refl}
use Rattle.chart.specs.Layout.{row_of}
use Rattle.tables.specs.Layout.{arity_in}
use Rattle.empty.proofs.BeginLaws.{begun_none, begun_fits, begun_more}
use Rattle.empty.proofs.RowLaws.{row_room}
use Rattle.span.proofs.RoundLaws.{base_first, base_next}
use Rattle.span.proofs.TableLaws.{part_outside}
use Rattle.empty.proofs.begin.Goals as goal

pub loop-p-init : goal.loop-p-init
loop-p-init c = (begun_none c.args.links.now.counts.now c.args.links.now.users.now c.args.args.now c.args.cells.now c.requires.0 c.requires.1, base_first (arity_in c.args.links.now.counts.now))

pub bounds-cells-base : goal.bounds-cells-base
bounds-cells-base c = omega (arith, row_room c.args.links.now.linked c.loop-p.p 0 c.loop-p-test.true (omega arith), c.loop-p.invariant.1, c.loop-p.invariant.0.cells_long)

pub spread-requires : goal.spread-requires
spread-requires c = record { args_len = (c.loop-p.invariant.0.args_long, omega arith); rows_le_row_limit = part_outside c.args.links.now.linked c.loop-p.p c.args.links.now.rows c.loop-p-test.true c.args.links.now.all_rows; by_index = begun_fits c.args.links.now.linked c.loop-p-test.true c.loop-p.invariant.0 }

pub overflow_add-base : goal.overflow_add-base
overflow_add-base c = omega (arith, c.args.links.now.linked.few_arguments c.loop-p.p, c.wide.ensures)

pub overflow_add-base-in-loop-p : goal.overflow_add-base-in-loop-p
unfolding row_of
overflow_add-base-in-loop-p c = omega (arith, row_room c.args.links.now.linked c.loop-p.p (arity_in c.args.links.now.counts.now c.loop-p.p) c.loop-p-test.true (le_refl _), c.loop-p.invariant.1, c.wide.ensures)

pub loop-p-preserved : goal.loop-p-preserved
loop-p-preserved c =
    let p = c.args.links.now.linked in
    let h = c.loop-p in
    (begun_more p c.loop-p-test.true h.invariant.0 h.base _ h.invariant.1 c.args-1.given c.spread.ensures, base_next (arity_in c.args.links.now.counts.now) h.p h.base c.wide.result h.invariant.1 c.wide.ensures)
