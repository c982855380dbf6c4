-- `put_counts` meets its contract: the counts of the productions passed are written, and the rows up to the next.
use Prim.Native.Nat.{◌+◌}
use mathlib.Core.Path.{◌≡◌, refl, sym, ◌∙◌}
use native.Mathlib.Omega.{arith}
use lib.ListN.{length, set}
use Rattle.tables.proofs.PutLaws.{row_none, row_more, counts_none, counts_more, classes_kept}
use Rattle.tables.specs.Layout.{arity_in, row_count, counts_at, rows_at}
use Rattle.tables.proofs.put_counts.Goals as goal

pub loop-p-init : goal.loop-p-init
loop-p-init c =
    let start = c in (
      counts_none start.args.counts.now start.args.tables.now (length start.args.counts.now) start.requires.0 refl,
      (sym (row_none start.args.counts.now), omega arith),
      λ k l. refl,
    )

pub loop-p-preserved : goal.loop-p-preserved
loop-p-preserved c =
    let start = c in
    let turn = c.loop-p in
    let wide = c.from in
    let b = start.args.counts.now in
    let e : turn.row + (wide.result + 1) ≡ row_count (arity_in b) (turn.p + 1) = omega (arith, row_more b turn.p, wide.ensures, turn.invariant.1.0) in (
      counts_more b turn.tables turn.p c.from-in-loop-p.result (turn.row + (wide.result + 1)) (omega arith) start.requires.1 turn.invariant.0 c.from-in-loop-p.ensures e,
      (e, omega (arith, wide.ensures, c.type_inv.counts turn.p)),
      λ k l. classes_kept (set turn.tables (counts_at + turn.p) c.from-in-loop-p.result) (rows_at + turn.p + 1) (turn.row + (wide.result + 1)) (omega (arith, start.requires.1)) k l
          ∙ classes_kept turn.tables (counts_at + turn.p) c.from-in-loop-p.result (omega (arith, start.requires.1)) k l
          ∙ turn.invariant.2 k l,
    )
