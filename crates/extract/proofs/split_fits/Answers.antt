-- `split_fits` meets its contract: the entry before m isn't 0, and a character or a production stands behind it.
use Prim.Native.Nat.{◌≤◌}
use mathlib.Core.Bool.{not, false≢true}
use mathlib.Core.Path.{sym, ◌∙◌, ap}
use native.Mathlib.Omega.{arith}
use lib.ListN.{length, get_or}
use borrow.Author.Tests.{eq-eqb, ltb-true, lt-ltb}
use Rattle.extract.proofs.ArgumentLaws.{argument_in, char_stands, child_there, child_stands}
use Rattle.extract.proofs.CellLaws.{behind_wanted}
use Rattle.extract.specs.Places.{cell_of}
use Rattle.tables.proofs.LayoutLaws.{slot_in}
use Rattle.tables.specs.Layout.{counts_of}
use Rattle.theory.specs.Tree.{leaf}
use Rattle.extract.proofs.split_fits.Goals as goal

pub entry_of-requires : goal.entry_of-requires
entry_of-requires c = let start = c in
    record { chart_fits = start.requires.walkable.fits; p_in_bounds = (start.requires.p_in_bounds.0, omega (arith, start.requires.p_in_bounds.1), start.requires.p_in_bounds.2, omega (arith, start.requires.p_in_bounds.3, start.requires.p_in_bounds.4)) }

pub returns-else-entry_of-ne0 : goal.returns-else-entry_of-ne0
returns-else-entry_of-ne0 c = (λ e. absurd (false≢true (sym (ap not (eq-eqb c.entry_of.result 0 c.if-entry_of-ne0.false)) ∙ e)), λ v. absurd (omega (arith, v.0, c.entry_of.ensures, c.if-entry_of-ne0.false)))

pub char_fits-requires : goal.char_fits-requires
char_fits-requires c =
    let start = c in
    let k = argument_in start.requires.walkable start.args.p start.args.d start.requires.p_in_bounds.0 start.requires.p_in_bounds.1 in
    (slot_in start.args.p start.args.d k.0 k.1, start.requires.walkable.fits.tables.long, start.requires.p_in_bounds.3, start.requires.p_in_bounds.4)

pub returns-then-char_fits : goal.returns-then-char_fits
returns-then-char_fits c =
    let start = c in
    let v : 1 ≤ cell_of start.args.tables.now start.args.text.now start.args.chart.now start.args.p start.args.d start.args.i start.args.m = omega (arith, c.entry_of.ensures, c.if-entry_of-ne0.true) in
    (λ e. (v, (leaf (get_or start.args.text.now start.args.m 0), char_stands start.args.tables.now start.args.text.now start.args.p start.args.d start.args.m start.args.j start.requires.p_in_bounds.4 (sym c.char_fits.ensures ∙ c.if-char_fits.true))), λ s. c.if-char_fits.true)

pub production_count-requires : goal.production_count-requires
production_count-requires c = c.requires.walkable.fits.tables

pub returns-else-char_fits : goal.returns-else-char_fits
returns-else-char_fits c =
    let start = c in
    let v : 1 ≤ cell_of start.args.tables.now start.args.text.now start.args.chart.now start.args.p start.args.d start.args.i start.args.m = omega (arith, c.entry_of.ensures, c.if-entry_of-ne0.true) in
    let n = length (counts_of start.args.tables.now) in
    let r = c.first_child.result in
    let a = start.args in
    let h = start.requires in
    let next = behind_wanted start.requires.walkable a.p a.d a.i a.m start.requires.p_in_bounds.0 (omega arith) start.requires.p_in_bounds.1 start.requires.p_in_bounds.2 (omega arith) v in
    rw c.production_count.ensures (
      λ e. (v, child_stands start.requires.walkable start.args.p start.args.d start.args.m start.args.j r c.first_child.ensures (ltb-true r n e) start.requires.p_in_bounds.3 start.requires.p_in_bounds.4),
      λ s. lt-ltb r n (child_there start.requires.walkable start.args.p start.args.d start.args.m start.args.j r next c.first_child.ensures (sym c.char_fits.ensures ∙ c.if-char_fits.false) s.1),
    )
