-- `argument_counts` meets its contract: the counts of the productions passed are copied.
use Prim.Native.Nat.{◌<◌}
use mathlib.Core.Path.{◌∙◌}
use native.Mathlib.Decide.{ℕ_discrete}
use native.Mathlib.Omega.{arith}
use lib.ListN.{length-set}
use lib.Seq.{get_or-set_same, get_or-set_other}
use Rattle.layout.specs.Limits.{production_limit}
use Rattle.tables.proofs.LayoutLaws.{counts_long}
use Rattle.tables.proofs.argument_counts.Goals as goal

pub bounds-counts-p : goal.bounds-counts-p
bounds-counts-p c =
    let start = c in
    omega (arith, c.production_count-p-end.ensures, counts_long start.args.tables.now start.requires.long start.requires.few_productions, start.requires.few_productions)

pub loop-p-preserved : goal.loop-p-preserved
loop-p-preserved c =
    let start = c in
    let turn = c.loop-p in
    let few : turn.p < production_limit = omega (arith, c.production_count-p-end.ensures, counts_long start.args.tables.now start.requires.long start.requires.few_productions, start.requires.few_productions) in
    let e = c.argument_count.ensures in (
      λ k l. elim (ℕ_discrete k turn.p) [
        | yes z ↦ rw (z, get_or-set_same turn.counts turn.p c.argument_count.result 0 (omega (arith, turn.invariant.1))) e
        | no z ↦ (get_or-set_other turn.counts turn.p k c.argument_count.result 0 z ∙ turn.invariant.0 k (omega arith))
      ],
      length-set turn.counts turn.p c.argument_count.result ∙ turn.invariant.1,
    )
