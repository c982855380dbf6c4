-- `write_levels` meets its contract: each step leaves less to do, until no level is open or no room is left.
use mathlib.Core.Path.{refl, ◌∙◌}
use native.Mathlib.Omega.{arith}
use Rattle.extract.proofs.StepLaws.{midway_still, out_of_room, all_closed}
use Rattle.numbers.specs.Written.{room}
use Rattle.tables.specs.Theory.{theory_of}
use Rattle.extract.proofs.write_levels.Goals as goal

pub loop-n-init : goal.loop-n-init
loop-n-init c = ((λ q l₀ s. s), refl, refl)

pub shape_of-levels-then-out-next : goal.shape_of-levels-then-out-next
shape_of-levels-then-out-next c = c.loop-n.invariant.1

pub shape_of-out-then-out-next : goal.shape_of-out-then-out-next
shape_of-out-then-out-next c = c.loop-n.invariant.2

pub returns-then-out-next : goal.returns-then-out-next
unfolding room
returns-then-out-next c =
    let a = c.args in
    let x = c.loop-n in
    out_of_room (theory_of a.tables.now) a.text.now a.levels.now 1 a.out.now a.at x.levels x.n x.out x.next x.invariant.0 (omega arith)

pub write_step-step-requires : goal.write_step-step-requires
unfolding room
write_step-step-requires c = let x = c.loop-n in
    record { midway = midway_still x.levels x.n x.out x.next c.requires x.invariant.0; le_n = (omega arith, omega arith) }

pub loop-n-smaller : goal.loop-n-smaller
loop-n-smaller c = c.write_step-step.ensures.less

pub loop-n-preserved : goal.loop-n-preserved
loop-n-preserved c =
    let write_step = c.write_step-step in
    let turn = c.loop-n in
    ((λ q l₀ s. write_step.ensures.still q l₀ (turn.invariant.0 q l₀ s)), write_step.auto.levels ∙ turn.invariant.1, write_step.auto.out ∙ turn.invariant.2)

pub shape_of-levels : goal.shape_of-levels
shape_of-levels c = c.loop-n.invariant.1

pub shape_of-out : goal.shape_of-out
shape_of-out c = c.loop-n.invariant.2

pub returns : goal.returns
returns c =
    let a = c.args in
    let x = c.loop-n in
    all_closed (theory_of a.tables.now) a.text.now a.levels.now 1 a.out.now a.at x.levels x.n x.out x.next x.invariant.0 (omega arith)
