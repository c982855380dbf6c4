-- `closed` meets its contract: after the turn for a middle, entries are chains through all middles so far.
use Prim.Native.Nat.{ℕ}
use mathlib.Core.Path.{◌≡◌, refl, sym, ◌∙◌, subst}
use native.Mathlib.Omega.{arith}
use Rattle.priority.proofs.ChainLaws.{through_next, through_same, through_chain, chain_through}
use Rattle.priority.specs.Chain.{through, entry}
use Rattle.priority.proofs.closed.Goals as goal
use Rattle.priority.proofs.closed.Goals.{then-leads_on, else-leads_on}

pub loop-middle-init : goal.loop-middle-init
unfolding through
loop-middle-init c = λ x y. refl

pub loop-middle-preserved : goal.loop-middle-preserved
unfolding entry
loop-middle-preserved c =
    let l = c in
    let t = l.args.table in
    let m = l.loop-middle.middle in
    let i = l.loop-middle.invariant in
    elim c.if-leads_on.branch [
      | then-leads_on w ↦ (λ x y. rw w.closure-is (w.with_middle-closure.ensures x y ∙ rw (i x y, i x m, i m y) (sym (through_next (entry t) m x y))))
      | else-leads_on w ↦ (λ x y. rw w.closure-is (i x y ∙ sym (through_same (entry t) m x y (sym (i m y) ∙ c.leads_on.ensures.false_value w.if-leads_on.false y))))
    ]

pub returns : goal.returns
returns c x y =
    let t = c.args.table in
    let n = c.args.count in
    let e : c.loop-middle.middle ≡ n = omega arith in
    let i = subst (λ (k : ℕ). entry c.loop-middle.closure x y ≡ through (entry t) k x y) e (c.loop-middle.invariant x y) in
    ((λ h. through_chain (entry t) n x y (sym i ∙ h)), (λ h. i ∙ chain_through (entry t) n c.requires.1 h))
