-- `read_lines` meets its contract: behind the bytes passed, the tables hold what is complete.
use mathlib.Core.Path.{◌≡◌, sym, ◌∙◌, ap}
use native.Mathlib.Omega.{arith}
use lib.ListN.{length}
use Rattle.form.proofs.ReadLaws.{small_told}
use Rattle.form.proofs.StepLaws.{short_after}
use Rattle.form.specs.Step.{goes_on}
use Rattle.form.specs.declared.State.{State}
use Rattle.load.proofs.HeldLaws.{notable_told}
use Rattle.load.proofs.ReachedLaws.{reached_none, reached_more, reached_off, reached_end}
use Rattle.load.proofs.read_lines.Goals as goal

pub loop-i-init : goal.loop-i-init
loop-i-init c =
    let start = c in
    rw c.start-state.ensures (reached_none start.args.text.now start.args.tables.now start.args.counts.now start.requires.0 start.requires.1)

pub step-next-requires : goal.step-next-requires
step-next-requires c =
    let turn = c.loop-i in
    small_told turn.state turn.invariant.memory _ turn.invariant.told turn.invariant.on

pub goes_on-requires : goal.goes_on-requires
goes_on-requires c =
    let turn = c.loop-i in
    let s = turn.state in
    rw c.step-next.ensures (short_after s.line s.argument s.spot _ (small_told s turn.invariant.memory _ turn.invariant.told turn.invariant.on).spot)

pub shape_of-tables-then-not-goes_on : goal.shape_of-tables-then-not-goes_on
shape_of-tables-then-not-goes_on c = c.loop-i.invariant.held.long ∙ sym c.requires.0.long

pub shape_of-counts-then-not-goes_on : goal.shape_of-counts-then-not-goes_on
shape_of-counts-then-not-goes_on c = c.loop-i.invariant.held.many ∙ sym c.requires.1

pub returns-then-not-goes_on : goal.returns-then-not-goes_on
returns-then-not-goes_on c =
    let turn = c.loop-i in
    let off = sym (ap (λ (s : State). goes_on s.spot) c.step-next.ensures) ∙ sym c.goes_on.ensures ∙ c.if-not-goes_on.true in
    rw c.at.ensures (reached_off _ turn.i turn.state turn.tables turn.counts turn.invariant (omega arith) off)

pub note-requires : goal.note-requires
note-requires c = let turn = c.loop-i in
    record { notable = notable_told turn.state turn.invariant.memory _ turn.invariant.told turn.invariant.on; tables_len = (turn.invariant.held.long, turn.invariant.held.many) }

pub loop-i-preserved : goal.loop-i-preserved
loop-i-preserved c =
    let turn = c.loop-i in
    let on = sym (ap (λ (s : State). goes_on s.spot) c.step-next.ensures) ∙ sym c.goes_on.ensures ∙ c.if-not-goes_on.false in
    rw c.step-next.ensures (reached_more _ turn.i turn.state turn.tables turn.counts _ _ turn.invariant (omega arith) on c.note.ensures)

pub shape_of-tables : goal.shape_of-tables
shape_of-tables c = c.loop-i.invariant.held.long ∙ sym c.requires.0.long

pub shape_of-counts : goal.shape_of-counts
shape_of-counts c = c.loop-i.invariant.held.many ∙ sym c.requires.1

pub returns : goal.returns
returns c =
    let turn = c.loop-i in
    let text = c.args.text.now in
    let e : turn.i ≡ length text = omega arith in
    rw (c.end_answer.ensures, ← e) (reached_end _ turn.i turn.state turn.tables turn.counts turn.invariant (omega arith))
