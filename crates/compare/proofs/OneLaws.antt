-- What a comparison answers, exactly: each answer under its condition, and no other.
use Prim.Native.Nat.{ℕ, ◌≤◌}
use mathlib.Core.List.{List}
use mathlib.Core.Logic.{◌↔◌, ◌⊎◌, inl, inr}
use mathlib.Core.Path.{◌≡◌, refl, sym, ◌∙◌, ap, subst}
use native.Mathlib.Omega.{arith}
use Rattle.compare.proofs.AnswerLaws.{lines_checked, compared_refused, compared_ordered}
use Rattle.compare.proofs.RefusalLaws.{refused_exactly, accepted_exactly}
use Rattle.compare.specs.Answer.{compare_lines, ComparedIf, Compared, CompareAnswer}
use Rattle.compare.specs.Refusals.{ComparisonRefused, first, second, first_wrong, second_wrong}
use Rattle.compare.specs.Uses.{uses}
use Rattle.refusal.specs.Verdict.{in_order, Verdict, accepted}
use Rattle.listing.proofs.RefusedLaws.{refused_small}
use Rattle.listing.specs.Answer.{listing_answer}
use Rattle.order.proofs.OrderLaws.{says_one}
use Rattle.order.specs.Order.{Uses, OrderIs}
use Rattle.order.specs.declared.Order.{Order}
use Rattle.priority.specs.Check.{checked}
use Rattle.listing.specs.declared.Judgement.TheVariants.{Right}
use Rattle.refusal.proofs.VerdictLaws.{same_refusal}
use Rattle.refusal.specs.Fault.{number_of}
use Rattle.refusal.specs.declared.Refusal.{Refusal}
use Rattle.std.specs.Prelude.{Ok, Err}

same_order : {o p : Order} → ◌≡◌ {A = CompareAnswer} (Ok o) (Ok p) → o ≡ p
same_order e = cc

module _ (b : List ℕ) (m n : Uses) where
  -- an order is given only if nothing is refused
  if_ordered : (v : Verdict) (o : Order) → ComparedIf v b m n (Ok o) → (v ≡ accepted) × OrderIs b m n o
  unfolding ComparedIf
  if_ordered (Ok _) o (p, e, says) = (refl, subst (OrderIs b m n) (sym (same_order e)) says)
  if_ordered (Err r) o e = let z : ◌≡◌ {A = ℕ} 0 1 = cc in absurd (omega arith)

  if_refused : (v : Verdict) (r : Refusal) → ComparedIf v b m n (Err r) → v ≡ Err r
  unfolding ComparedIf
  if_refused (Ok _) r (p, e, says) = let z : ◌≡◌ {A = ℕ} 0 1 = cc in absurd (omega arith)
  if_refused (Err x) r e = ap (λ (z : Refusal). Err z) (sym (same_refusal {B = Order} e))

  if_one : (v : Verdict) (r r' : CompareAnswer) → (v ≡ accepted → checked b ≡ accepted) → ComparedIf v b m n r → ComparedIf v b m n r' → r ≡ r'
  unfolding ComparedIf
  if_one (Ok _) r r' good (o, e, says) (p, f, also) = e ∙ ap (λ (z : Order). Ok z) (says_one b (good refl) m n o p says also) ∙ sym f
  if_one (Err x) r r' good e f = e ∙ sym f

module _ (b w l m : List ℕ) where
  -- What is lent determines the answer.
  pub compared_one : (r r' : CompareAnswer) → Compared b w l m r → Compared b w l m r' → r ≡ r'
  unfolding Compared
  compared_one r r' h k = if_one b (uses l) (uses m) (in_order (compare_lines b w l m)) r r' (lines_checked b w l m) h k

  -- An order is given exactly if both listings are right and it is theirs.
  pub ordered_exactly : (o : Order) → Compared b w l m (Ok o) ↔ ((listing_answer b w l ≡ Ok Right) × (listing_answer b w m ≡ Ok Right) × OrderIs b (uses l) (uses m) o)
  unfolding Compared
  ordered_exactly o = (
    (λ h. let (passed, says) = if_ordered b (uses l) (uses m) (in_order (compare_lines b w l m)) o h in
        let (right, also) = (accepted_exactly b w l m).0 passed in
        (right, also, says)),
    (λ (right, also, says). compared_ordered b w l m o ((accepted_exactly b w l m).1 (right, also)) says),
  )

  -- and then the grammar is accepted
  pub ordered_accepted : (o : Order) → Compared b w l m (Ok o) → checked b ≡ accepted
  unfolding Compared
  ordered_accepted o h = lines_checked b w l m (if_ordered b (uses l) (uses m) (in_order (compare_lines b w l m)) o h).0

  pub not_compared_exactly : (r : Refusal) → Compared b w l m (Err r) ↔ ComparisonRefused (listing_answer b w l) (listing_answer b w m) r
  unfolding Compared
  not_compared_exactly r = (
    (λ h. (refused_exactly b w l m r).0 (if_refused b (uses l) (uses m) (in_order (compare_lines b w l m)) r h)),
    (λ h. compared_refused b w l m r ((refused_exactly b w l m r).1 h)),
  )

  -- the numbers: 1 to 11, and 29
  numbered : {r : Refusal} → ComparisonRefused (listing_answer b w l) (listing_answer b w m) r → (number_of r.fault ≤ 11) ⊎ (number_of r.fault ≡ 29)
  numbered (first e) = inl (refused_small b w l _ e)
  numbered (second h e) = inl (refused_small b w m _ e)
  numbered (first_wrong e h) = inr refl
  numbered (second_wrong e f) = inr refl

  pub compared_numbers : (r : Refusal) → Compared b w l m (Err r) → (number_of r.fault ≤ 11) ⊎ (number_of r.fault ≡ 29)
  compared_numbers r h = numbered ((not_compared_exactly r).0 h)
