-- `line_end` meets its contract: the line goes on at each place passed.
use mathlib.Core.Path.{refl}
use native.Mathlib.Omega.{arith}
use lib.ListN.{length}
use borrow.Author.Tests.{lt-ltb, le-ltb, eq-eqb, ne_eqb}
use Rattle.split.proofs.LinesLaws.{ending_first, ending_more, ending_last}
use Rattle.split.specs.Lines.{goes_on}
use Rattle.split.proofs.line_end.Goals as goal

pub loop-end-init : goal.loop-end-init
loop-end-init c = ending_first c.args.sheet.now c.args.start c.requires

pub returns-then-sheet-end-eq-LINE_FEED : goal.returns-then-sheet-end-eq-LINE_FEED
unfolding goes_on
returns-then-sheet-end-eq-LINE_FEED c =
    let h = c.loop-end.invariant in
    (ending_last c.args.sheet.now c.args.start c.loop-end.end h (rw (lt-ltb c.loop-end.end (length c.args.sheet.now) (omega arith), eq-eqb _ _ c.if-sheet-end-eq-LINE_FEED.true) refl), h.from, h.within)

pub loop-end-preserved : goal.loop-end-preserved
unfolding goes_on
loop-end-preserved c =
    ending_more c.args.sheet.now c.args.start c.loop-end.end c.loop-end.invariant (rw (lt-ltb c.loop-end.end (length c.args.sheet.now) (omega arith), ne_eqb _ _ c.if-sheet-end-eq-LINE_FEED.false) refl)

pub returns : goal.returns
unfolding goes_on
returns c =
    let h = c.loop-end.invariant in
    (omega (arith, ending_last c.args.sheet.now c.args.start c.loop-end.end h (rw (le-ltb c.loop-end.end (length c.args.sheet.now) (omega arith)) refl)), omega (arith, h.from), omega arith)
