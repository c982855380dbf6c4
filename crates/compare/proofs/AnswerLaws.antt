-- Laws of the answer: the refusals in the order in which they are looked for, and what an answer without one says.
use Prim.Native.Nat.{ℕ}
use mathlib.Core.Bool.{Bool, false, true, not}
use mathlib.Core.List.{List, [], ◌∷◌}
use mathlib.Core.Path.{◌≡◌, refl, ap}
use Rattle.compare.specs.Answer.{found_right, not_right, compare_lines, ComparedIf, Compared}
use Rattle.compare.specs.Uses.{uses}
use Rattle.engine.specs.Refusals.{too_long}
use Rattle.refusal.proofs.VerdictLaws.{and_first, and_assoc}
use Rattle.refusal.specs.Verdict.{refuse_if, and_then, in_order, accepted, refused}
use Rattle.listing.specs.Answer.{bad_listing, judged}
use Rattle.order.specs.Order.{OrderIs}
use Rattle.order.specs.declared.Order.{Order}
use Rattle.priority.specs.Check.{checked}
use Rattle.refusal.specs.declared.Fault.TheVariants.{WrongPair}
use Rattle.refusal.specs.declared.Refusal.{Refusal}
use Rattle.std.specs.Prelude.{Ok, Err}

-- ---- the refusals

module _ (b w first second : List ℕ) where
  -- the text and the first listing are looked at together
  pub lines_parts : in_order (compare_lines b w first second)
      ≡ and_then (checked b) (and_then (in_order (too_long w ∷ bad_listing first ∷ [])) (and_then (bad_listing second) (in_order (not_right b w first 0 ∷ not_right b w second 1 ∷ []))))
  lines_parts =
      ap (and_then (checked b)) (and_assoc (too_long w) (bad_listing first) (and_then (bad_listing second) (in_order (not_right b w first 0 ∷ not_right b w second 1 ∷ []))))

  pub lines_checked : in_order (compare_lines b w first second) ≡ accepted → checked b ≡ accepted
  lines_checked e = and_first (checked b) (in_order (too_long w ∷ bad_listing first ∷ bad_listing second ∷ not_right b w first 0 ∷ not_right b w second 1 ∷ [])) e

  -- ---- the answer

  pub compared_refused : (r : Refusal) → in_order (compare_lines b w first second) ≡ Err r → Compared b w first second (Err r)
  unfolding Compared ComparedIf
  compared_refused r e = rw e refl

  pub compared_ordered : (o : Order) → in_order (compare_lines b w first second) ≡ accepted → OrderIs b (uses first) (uses second) o → Compared b w first second (Ok o)
  unfolding Compared ComparedIf
  compared_ordered o e says = rw e (o, refl, says)

module _ (b w l : List ℕ) (which : ℕ) where
  pub right_passes : found_right (judged b w l) ≡ true → not_right b w l which ≡ accepted
  unfolding not_right
  right_passes e = ap (λ (t : Bool). refuse_if (not t) WrongPair which) e

  pub wrong_stops : found_right (judged b w l) ≡ false → not_right b w l which ≡ refused WrongPair which
  unfolding not_right
  wrong_stops e = ap (λ (t : Bool). refuse_if (not t) WrongPair which) e
