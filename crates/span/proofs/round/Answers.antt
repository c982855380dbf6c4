-- `round` meets its contract: the productions before q have been looked at, and q's rows begin at `base`.
use mathlib.Core.Path.{refl}
use native.Mathlib.Omega.{arith}
use Rattle.tables.specs.Layout.{arity_in}
use Rattle.span.proofs.RoundLaws.{visited_join, visited_past, base_first, base_next}
use Rattle.span.proofs.TableLaws.{table_room}
use Rattle.span.proofs.VisitLaws.{visited_idle}
use Rattle.span.proofs.round.Goals.{then-pending-q-ne0, else-pending-q-ne0}
use Rattle.span.proofs.round.Goals as goal

pub loop-q-init : goal.loop-q-init
loop-q-init c =
    let p = c.requires in
    (λ bare agree. visited_idle 0 0 c.requires.founded.small agree (λ k l m. absurd (omega arith)), refl, refl, refl, base_first (arity_in c.args.links.now.counts.now))

pub overflow_add-base : goal.overflow_add-base
overflow_add-base c =
    let h = c.loop-q in
    let p = c.requires in
    omega (arith, table_room h.q h.base c.args.links.now.linked c.requires.loads c.requires.founded (c.loop-q-test.true, h.invariant.4) c.wide.result c.wide.ensures)

pub overflow_add-base-in-loop-q : goal.overflow_add-base-in-loop-q
overflow_add-base-in-loop-q c =
    let h = c.loop-q in
    let p = c.requires in
    omega (arith, table_room h.q h.base c.args.links.now.linked c.requires.loads c.requires.founded (c.loop-q-test.true, h.invariant.4) c.wide.result c.wide.ensures)

pub loop-q-preserved : goal.loop-q-preserved
loop-q-preserved c =
    let h = c.loop-q in (
      λ bare agree. let v = h.invariant.0 bare agree in elim c.if-pending-q-ne0.branch [
        | then-pending-q-ne0 w ↦ rw (w.pending-is, w.args-is, w.cells-is, w.rose-is) (visited_join v (w.visit-rose.ensures bare v.agree))
        | else-pending-q-ne0 w ↦ rw (w.pending-is, w.args-is, w.cells-is, w.rose-is) (visited_past v w.if-pending-q-ne0.false)
      ],
      search,
      search,
      search,
      base_next (arity_in c.args.links.now.counts.now) h.q h.base c.wide.result h.invariant.4 c.wide.ensures,
    )
