-- `root_at` meets its contract: the bit of the root's class, and the entry of the production with all its arguments, for the whole text.
use Prim.Native.Nat.{ℕ}
use mathlib.Core.Bool.{false, true}
use mathlib.Core.Path.{◌≡◌, sym, ◌∙◌, ap}
use native.Mathlib.Nat.{le_refl, one-mul, zero-mul}
use native.Mathlib.Omega.{arith}
use lib.ListN.{length}
use Rattle.engine.specs.Roots.{root_term}
use Rattle.extract.specs.Places.{cell_of}
use Rattle.tables.proofs.LayoutLaws.{counts_few}
use Rattle.tables.specs.Layout.{root_slot, counts_of, arity_in, takes_production}
use Rattle.engine.proofs.root_at.Goals as goal

pub takes_production-requires : goal.takes_production-requires
takes_production-requires c =
    let start = c in
    (start.requires.chart_fits.tables.long, omega arith, omega (arith, counts_few start.args.tables.now start.requires.chart_fits.tables, start.requires.p_in_bounds))

pub returns-then-not-takes_production : goal.returns-then-not-takes_production
unfolding root_term
returns-then-not-takes_production c = let start = c in
    let no_bit : takes_production start.args.tables.now root_slot start.args.p ≡ false = sym c.takes_production.ensures ∙ c.if-not-takes_production.true in
    let cell = cell_of start.args.tables.now start.args.text.now start.args.chart.now start.args.p (arity_in (counts_of start.args.tables.now) start.args.p) 0 (length start.args.text.now) in
    record { value = sym (rw no_bit (zero-mul cell)); upper_bound = omega arith }

pub argument_count-arity-requires : goal.argument_count-arity-requires
argument_count-arity-requires c =
    let start = c in
    (start.requires.chart_fits.tables, start.requires.p_in_bounds)

pub entry_of-requires : goal.entry_of-requires
entry_of-requires c = let start = c in
    record { chart_fits = start.requires.chart_fits; p_in_bounds = (start.requires.p_in_bounds, omega (arith, c.argument_count-arity.ensures), omega arith, le_refl (length start.args.text.now)) }

pub returns : goal.returns
unfolding root_term
returns c = let start = c in
    let takes-production = c.takes_production in
    let bit : takes_production start.args.tables.now root_slot start.args.p ≡ true = sym takes-production.ensures ∙ c.if-not-takes_production.false in
    let cell = cell_of start.args.tables.now start.args.text.now start.args.chart.now start.args.p (arity_in (counts_of start.args.tables.now) start.args.p) 0 (length start.args.text.now) in
    let same : c.wide.result ≡ cell = c.wide.ensures ∙ c.entry_of.ensures ∙ ap (λ (n : ℕ). cell_of start.args.tables.now start.args.text.now start.args.chart.now start.args.p n 0 (length start.args.text.now)) c.argument_count-arity.ensures in
    record { value = same ∙ sym (rw bit (one-mul cell)); upper_bound = omega (arith, c.wide.ensures) }
