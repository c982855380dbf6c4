-- `write_step` meets its contract: a level whose arguments are all written is closed, and any other goes on.
use mathlib.Core.Path.{◌∙◌, ap, sym}
use native.Mathlib.Omega.{arith}
use Rattle.extract.proofs.StepLaws.{last_production, last_within, closed_further}
use Rattle.levels.specs.Levels.{production_of, written_of}
use Rattle.tables.specs.Layout.{counts_of, arity_in}
use Rattle.extract.proofs.write_step.Goals as goal

pub argument_count-requires : goal.argument_count-requires
unfolding production_of
argument_count-requires c =
    let start = c in
    (start.requires.midway.walkable.fits.tables, omega (arith, c.wide-2.ensures, last_production start.requires.midway start.requires.le_n.0))

pub returns-then-wide-argument_count : goal.returns-then-wide-argument_count
unfolding production_of written_of
returns-then-wide-argument_count c =
    let start = c in
    closed_further start.requires.midway start.requires.le_n.0 (sym c.wide.ensures ∙ c.if-wide-argument_count.true ∙ c.argument_count.ensures ∙ ap (arity_in (counts_of start.args.tables.now)) c.wide-2.ensures)

pub write_next-requires : goal.write_next-requires
unfolding production_of written_of
write_next-requires c = let start = c in
    record { midway = start.requires.midway; le_n = start.requires.le_n; n_bound = omega (arith, last_within start.requires.midway start.requires.le_n.0, c.if-wide-argument_count.false, c.wide.ensures, c.argument_count.ensures, ap (arity_in (counts_of start.args.tables.now)) c.wide-2.ensures) }
