-- `mark` meets its contract: the productions below p are marked, the rest is as it was.
use Prim.Native.Nat.{ℕ, max}
use mathlib.Core.Path.{◌∙◌, ap}
use native.Mathlib.Omega.{arith}
use native.Mathlib.Nat.{le_refl}
use lib.ListN.{get_or}
use Rattle.common.proofs.FillLaws.{filled_more}
use Rattle.span.proofs.mark.Invariants.{Marked}
use Rattle.span.proofs.mark.Goals as goal

pub loop-p-preserved : goal.loop-p-preserved
unfolding Marked
loop-p-preserved c =
    let now = c.loop-p in
    let a = c.args in
    let old = now.invariant.rest now.p (le_refl _) in
    filled_more (Marked a.pending.now a.uses.now) 0 a.pending.now now.p now.pending _ (omega arith) now.invariant (c.larger.ensures ∙ ap (λ (v : ℕ). max v (get_or a.uses.now now.p 0)) old)

pub returns : goal.returns
unfolding Marked
returns c p l = c.loop-p.invariant.done p (omega arith)
