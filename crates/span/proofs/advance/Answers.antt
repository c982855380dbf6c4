-- `advance` meets its contract: the cells are raised for the first d arguments.
use Prim.Native.Nat.{◌+◌}
use mathlib.Core.Path.{refl, ◌∙◌}
use native.Mathlib.Omega.{arith}
use lib.ListN.{length-set}
use Rattle.span.proofs.AdvanceLaws.{advanced_next}
use Rattle.span.specs.Tables.{advanced}
use Rattle.span.proofs.advance.Goals as goal

pub loop-d-init : goal.loop-d-init
unfolding advanced
loop-d-init c = (refl, omega arith)

pub loop-d-preserved : goal.loop-d-preserved
loop-d-preserved c = (advanced_next c.args.inner.now c.args.front.now c.args.back.now c.args.args.now c.args.base c.loop-d.d c.args.cells.now c.loop-d.cells c.larger.result c.step.result c.loop-d.invariant.0 c.step.ensures c.larger.ensures, length-set c.loop-d.cells (c.args.base + c.loop-d.d + 1) c.larger.result ∙ c.loop-d.invariant.1)
