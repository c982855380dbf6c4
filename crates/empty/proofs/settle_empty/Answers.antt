-- `settle_empty` meets its contract: each turn settles the cells with the arguments held fixed, and takes the arguments up.
use Rattle.empty.proofs.GrowLaws.{exact_held}
use Rattle.empty.proofs.TurnLaws.{turning_first, turning_loads, turning_founded, turning_next, turning_less, turning_last}
use Rattle.empty.proofs.settle_empty.Goals as goal

pub loop-changed-init : goal.loop-changed-init
loop-changed-init c = turning_first c.zero_row-back.ensures c.begin.ensures c.follow-changed.ensures

pub settle-requires : goal.settle-requires
settle-requires c = let start = c in
    let zero_row = c.zero_row-zeros in
    let p = start.requires in
    let t = c.loop-changed.invariant in
    record { loads = turning_loads t zero_row.ensures; founded = turning_founded t zero_row.result }

pub loop-changed-smaller : goal.loop-changed-smaller
loop-changed-smaller c =
    let start = c in
    let a = start.args in
    let h = c.loop-changed in
    let z = c.zero_row-zeros in
    turning_less h.invariant start.args.links.now.linked z.ensures (c.settle.ensures (λ r. 0) (exact_held a.links.now.counts.now a.links.now.users.now z.result h.back h.invariant.agree)) c.args-in-loop-changed-1.given c.follow-changed-in-loop-changed.ensures c.loop-changed-test.true

pub loop-changed-preserved : goal.loop-changed-preserved
loop-changed-preserved c =
    let start = c in
    let a = start.args in
    let h = c.loop-changed in
    let p = start.requires in
    let z = c.zero_row-zeros in
    turning_next h.invariant start.args.links.now.linked z.ensures (c.settle.ensures (λ r. 0) (exact_held a.links.now.counts.now a.links.now.users.now z.result h.back h.invariant.agree)) c.args-in-loop-changed-1.given c.follow-changed-in-loop-changed.ensures

pub returns : goal.returns
returns c chars subs are = turning_last c.args.links.now.linked c.loop-changed.invariant c.loop-changed-test.false chars subs are
