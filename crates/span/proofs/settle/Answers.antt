-- `settle` meets its contract: rounds go on while a count rises, and each such round leaves less to spare.
use mathlib.Core.Path.{refl, ◌∙◌}
use Rattle.layout.specs.Limits.{production_limit}
use Rattle.span.proofs.RoundLaws.{settling_first, settling_next, settling_less}
use Rattle.span.specs.Tables.{span_of}
use Rattle.span.proofs.settle.Goals as goal

pub loop-rose-init : goal.loop-rose-init
unfolding span_of
loop-rose-init c =
    let p = c.requires in
    (λ bare agree. settling_first production_limit c.args.links.now.linked.few_productions c.requires.founded.small agree, refl, refl, refl)

pub loop-rose-smaller : goal.loop-rose-smaller
loop-rose-smaller c =
    let a = c.args in
    let h = c.loop-rose in
    let p = c.requires in
    let f = c.requires.founded in
    settling_less a.links.now.counts.now a.links.now.users.now a.inner.now a.front.now a.back.now f.bare h.cells _ h.rose c.round-rose.result c.loop-rose-test.true (c.round-rose.ensures f.bare (h.invariant.0 f.bare f.agree).agree).less

pub loop-rose-preserved : goal.loop-rose-preserved
unfolding span_of
loop-rose-preserved c =
    let h = c.loop-rose in
    (λ bare agree. let v = h.invariant.0 bare agree in settling_next v (c.round-rose.ensures bare v.agree), c.pending-in-loop-rose-1.given, c.args-1.given ∙ h.invariant.2, c.cells-1.given ∙ h.invariant.3)
