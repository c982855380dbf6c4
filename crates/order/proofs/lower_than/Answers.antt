-- `lower_than` meets its contract: of the productions below q, those of the row are higher than each production marked.
use Prim.Native.Nat.{ℕ, ◌+◌}
use mathlib.Core.Bool.{Bool, false, true, ◌||◌, false≢true}
use mathlib.Core.List.{List}
use mathlib.Core.Logic.{◌↔◌, ⊎_elim, by_cases}
use mathlib.Core.Path.{◌≡◌, sym, ◌∙◌}
use native.Mathlib.Decide.{dec_lt, ℕ_discrete}
use native.Mathlib.Omega.{arith}
use lib.ListN.{length, get_or, get_or-eq_default}
use borrow.Author.Rules.{rules}
use Rattle.common.proofs.BoolLaws.{or_cases, or_first, or_second}
use Rattle.common.proofs.ListLaws.{get_d_all}
use Rattle.layout.specs.Limits.{production_limit}
use Rattle.priority.specs.Chain.{entry}
use Rattle.order.proofs.lower_than.Invariants.{OneOf}
use Rattle.order.proofs.lower_than.Goals as goal
use Rattle.order.proofs.lower_than.Goals.{then-these-q, else-these-q}

module _ (higher : List (List Bool)) (these : List Bool) (n p : ℕ) where
  -- a production that is not one of these adds nothing
  passed : get_or these n false ≡ false → OneOf higher these (n + 1) p → OneOf higher these n p
  unfolding OneOf
  passed out (q, l, marked, above) = elim (ℕ_discrete q n) [
    | yes e ↦ absurd (false≢true (sym out ∙ (rw e at marked)))
    | no e ↦ (q, omega arith, marked, above)
  ]

  wider : OneOf higher these n p → OneOf higher these (n + 1) p
  unfolding OneOf
  wider (q, l, marked, above) = (q, omega arith, marked, above)

  -- and one of them what it is higher than
  joined : get_or these n false ≡ true → (v own : Bool) → ((v ≡ true) ↔ OneOf higher these n p) → own ≡ (v || entry higher n p)
      → (own ≡ true) ↔ OneOf higher these (n + 1) p
  unfolding OneOf
  joined marked v own old e = (
    (λ h. ⊎_elim (λ f. wider (old.0 f)) (λ f. (n, omega arith, marked, f)) (or_cases v (entry higher n p) (sym e ∙ h))),
    (λ (q, l, m, above). e ∙ elim (ℕ_discrete q n) [
      | yes f ↦ or_second v (entry higher n p) (rw f at above)
      | no f ↦ or_first v (entry higher n p) (old.1 (q, omega arith, m, above))
    ]),
  )

pub loop-q-init : goal.loop-q-init
unfolding OneOf
loop-q-init c = λ p. ((λ e. absurd (false≢true (sym (get_d_all production_limit false p) ∙ e))), (λ (q, l, h, above). absurd (omega arith)))

pub loop-q-preserved : goal.loop-q-preserved
unfolding entry
loop-q-preserved c =
    let l = c in
    let higher = l.args.higher in
    let these = l.args.these in
    let q = l.loop-q.q in
    elim c.if-these-q.branch [
      | then-these-q w ↦ (λ p. rw w.lower-is (joined higher these q p w.if-these-q.true _ _ (l.loop-q.invariant p) (w.merged-wider.ensures p)))
      | else-these-q w ↦ (λ p. rw w.lower-is (
        (λ e. wider higher these q p ((l.loop-q.invariant p).0 e)),
        (λ h. (l.loop-q.invariant p).1 (passed higher these q p w.if-these-q.false h)),
      ))
    ]

pub returns : goal.returns
unfolding OneOf
returns c p =
    let these = c.args.these in
    let n : length these ≡ production_limit = search rules in
    let inv = c.loop-q.invariant p in (
      (λ e. let (q, l, marked, above) = inv.0 e in (q, marked, above)),
      (λ (q, marked, above). by_cases (dec_lt q production_limit)
          (λ l. inv.1 (q, omega arith, marked, above))
          (λ l. absurd (false≢true (sym (get_or-eq_default these false {n = q} (omega arith)) ∙ marked)))),
    )
