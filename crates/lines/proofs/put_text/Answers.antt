-- `put_text` meets its contract: the columns passed are put.
use mathlib.Core.Path.{sym}
use native.Mathlib.Omega.{arith}
use Rattle.common.proofs.ListLaws.{length_tabulate, tabulate_next}
use Rattle.common.specs.Lists.{tabulate}
use Rattle.lines.specs.Text.{shown}
use Rattle.writing.proofs.PutLaws.{put_none, put_append, put_same}
use Rattle.lines.proofs.put_text.Goals as goal

pub loop-c-init : goal.loop-c-init
unfolding tabulate
loop-c-init c =
    let start = c in
    put_none start.args.out.now start.args.at

pub put-place-requires : goal.put-place-requires
put-place-requires c =
    let start = c in
    let turn = c.loop-c in
    let a = start.args in
    omega (arith, start.requires.2, turn.invariant.next, length_tabulate turn.c (shown a.text.now a.start a.end))

pub loop-c-preserved : goal.loop-c-preserved
loop-c-preserved c =
    let turn = c.loop-c in
    let a = c.args in
    let column = shown a.text.now a.start a.end in
    put_same _ _ _ _ _ _ (sym (tabulate_next turn.c column)) (put_append _ _ _ _ _ _ _ _ turn.invariant (rw c.shown.ensures at c.put-place.ensures))
