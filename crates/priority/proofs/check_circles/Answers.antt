-- `check_circles` meets its contract: no production passed is higher than itself.
use mathlib.Core.Path.{refl, sym}
use native.Mathlib.Omega.{arith}
use Rattle.refusal.proofs.VerdictLaws.{first_none, first_more, first_found, first_done}
use Rattle.priority.specs.Chain.{entry}
use Rattle.priority.specs.Check.{on_diagonal}
use Rattle.priority.proofs.check_circles.Goals as goal

pub loop-p-init : goal.loop-p-init
loop-p-init c = first_none (on_diagonal c.args.table)

pub returns-then-table-p : goal.returns-then-table-p
unfolding on_diagonal entry
returns-then-table-p c = rw c.at.ensures (sym (first_found (on_diagonal c.args.table) c.loop-p.p _ (omega arith) c.loop-p.invariant (rw c.if-table-p.true refl)))

pub loop-p-preserved : goal.loop-p-preserved
unfolding on_diagonal entry
loop-p-preserved c = first_more (on_diagonal c.args.table) c.loop-p.p c.loop-p.invariant (rw c.if-table-p.false refl)

pub returns : goal.returns
returns c = first_done (on_diagonal c.args.table) _ _ c.loop-p.invariant (omega arith)
