-- The check of a grammar in its three parts.
use Prim.Native.Nat.{ℕ, ◌<◌}
use mathlib.Core.Path.{◌≡◌, refl, sym, ◌∙◌, ap}
use mathlib.Core.Bool.{false}
use mathlib.Core.List.{List, [], ◌∷◌, ◌++◌}
use Rattle.grammar.proofs.FormedLaws.{well_formed}
use Rattle.refusal.proofs.VerdictLaws.{refuse_accepted, and_first, and_second, first_all, order_append}
use Rattle.grammar.specs.Check.{frame_lines, frame_check, bodies_lines, bodies_check}
use Rattle.grammar.specs.Formed.{WellFormed}
use Rattle.refusal.specs.Verdict.{and_then, Verdict, accepted}
use Rattle.std.specs.Prelude.{Err}
use Rattle.refusal.specs.declared.Refusal.{Refusal}
use Rattle.layout.specs.Layout.{productions}
use Rattle.priority.specs.Check.{circle, circles, checked}
use Rattle.priority.specs.Priorities.{declarations_of, is_higher}
use Rattle.refusal.specs.declared.Fault.TheVariants.{Circle}

pub checked_parts : (b : List ℕ) → checked b ≡ and_then (frame_check b) (and_then (bodies_check b) (circles b))
unfolding checked frame_check bodies_check
checked_parts b =
    order_append (frame_lines b) (bodies_lines b ++ circles b ∷ []) ∙ ap (λ (v : Verdict). and_then (frame_check b) v) (order_append (bodies_lines b) (circles b ∷ []))

module _ (b : List ℕ) where
  pub checked_frame : (r : Refusal) → frame_check b ≡ Err r → checked b ≡ Err r
  checked_frame r e = checked_parts b ∙ rw e refl

  pub checked_bodies : (r : Refusal) → frame_check b ≡ accepted → bodies_check b ≡ Err r → checked b ≡ Err r
  checked_bodies r e f = checked_parts b ∙ rw (e, f) refl

  pub checked_circles : frame_check b ≡ accepted → bodies_check b ≡ accepted → checked b ≡ circles b
  checked_circles e f = checked_parts b ∙ rw (e, f) refl

-- ---- what an accepted grammar is

module _ (b : List ℕ) (e : checked b ≡ accepted) where
  parts : and_then (frame_check b) (and_then (bodies_check b) (circles b)) ≡ accepted
  parts = sym (checked_parts b) ∙ e

  rest : and_then (bodies_check b) (circles b) ≡ accepted
  rest = and_second (frame_check b) (and_then (bodies_check b) (circles b)) parts

  pub accepted_formed : WellFormed b
  accepted_formed =
      well_formed b (and_first (frame_check b) (and_then (bodies_check b) (circles b)) parts) (and_first (bodies_check b) (circles b) rest)

  pub accepted_acyclic : (p : ℕ) → p < productions b → is_higher b p p ≡ false
  unfolding circle
  accepted_acyclic p l =
      refuse_accepted (is_higher b p p) Circle p (first_all (circle (productions b) (declarations_of b)) (productions b) (and_second (bodies_check b) (circles b) rest) p l)
