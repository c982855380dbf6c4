-- `child_fits` meets its contract: the bit of the slot, and the entry for all arguments.
use Prim.Native.Nat.{ℕ}
use mathlib.Core.Bool.{false, true}
use mathlib.Core.Path.{◌≡◌, refl, sym, ◌∙◌, ap}
use native.Mathlib.Omega.{arith}
use lib.Dec.{ltb}
use Rattle.extract.proofs.ArgumentLaws.{argument_in}
use Rattle.extract.specs.Places.{cell_of}
use Rattle.tables.proofs.LayoutLaws.{counts_few}
use Rattle.tables.specs.Layout.{slot, takes_production}
use Rattle.extract.proofs.child_fits.Goals as goal

pub overflow_mul-p : goal.overflow_mul-p
overflow_mul-p c =
    let start = c in
    omega (arith, argument_in start.requires.walkable start.args.p start.args.d start.requires.p_in_bounds.0 start.requires.p_in_bounds.1)

pub overflow_add-p : goal.overflow_add-p
overflow_add-p c =
    let start = c in
    omega (arith, argument_in start.requires.walkable start.args.p start.args.d start.requires.p_in_bounds.0 start.requires.p_in_bounds.1)

pub takes_production-requires : goal.takes_production-requires
takes_production-requires c =
    let start = c in
    (start.requires.walkable.fits.tables.long, omega (arith, argument_in start.requires.walkable start.args.p start.args.d start.requires.p_in_bounds.0 start.requires.p_in_bounds.1), omega (arith, counts_few start.args.tables.now start.requires.walkable.fits.tables, start.requires.p_in_bounds.2))

pub returns-then-takes_production : goal.returns-then-takes_production
unfolding slot
returns-then-takes_production c =
    let a = c.args in
    let bit : takes_production a.tables.now (slot a.p a.d) a.q ≡ true = sym c.takes_production.ensures ∙ c.if-takes_production.true in
    let same = c.entry_of.ensures ∙ ap (λ (n : ℕ). cell_of a.tables.now a.text.now a.chart.now a.q n a.m a.j) c.argument_count.ensures in
    ap (λ (v : ℕ). ltb 0 v) same ∙ sym (rw bit refl)

pub returns-else-takes_production : goal.returns-else-takes_production
unfolding slot
returns-else-takes_production c =
    let a = c.args in
    let no_bit : takes_production a.tables.now (slot a.p a.d) a.q ≡ false = sym c.takes_production.ensures ∙ c.if-takes_production.false in
    rw no_bit c.if-takes_production.false
