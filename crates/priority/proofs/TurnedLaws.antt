-- A grammar with ranges turned round (02, [3]) is judged as it was, and has the same conflicts.
use Prim.Native.Nat.{ℕ, ◌<◌}
use mathlib.Core.Path.{◌≡◌, refl, sym, ◌∙◌, ap, ap₂, subst}
use mathlib.Core.List.{List, [], ◌∷◌}
use mathlib.Core.Logic.{◌↔◌}
use native.Mathlib.Omega.{arith}
use Rattle.common.proofs.ListLaws.{tabulate_same}
use Rattle.common.specs.Lists.{tabulate}
use Rattle.grammar.proofs.SameFrontLaws.{front_back, same_productions, same_count}
use Rattle.grammar.proofs.TurnedLaws.{turned_front, turned_declarations, turned_kind, turned_first, turned_second, turned_frame, turned_bodies}
use Rattle.grammar.specs.Check.{short_header, bad_header, short_contents, bad_argument_counts, bad_range_counts, bad_length, bad_productions, bad_declarations, repeated_productions}
use Rattle.grammar.specs.Turned.{TurnedRound}
use Rattle.refusal.specs.Verdict.{first_refusal, in_order, Verdict, accepted}
use Rattle.layout.specs.Layout.{productions, declarations, argument_count}
use Rattle.priority.proofs.CheckLaws.{checked_parts}
use Rattle.priority.proofs.SameFrontLaws.{front_conflict, front_conflicts}
use Rattle.priority.specs.Check.{circle, circles, checked}
use Rattle.priority.specs.Conflict.{ConflictIn, Conflict, conflicts_in, conflicts}
use Rattle.priority.specs.Priorities.{declaration_of, declarations_of}
use Rattle.priority.specs.declared.Declaration.{Declaration}

module _ (b c : List ℕ) (t : TurnedRound b c) where
  -- The declarations are the same.
  pub turned_list : declarations_of c ≡ declarations_of b
  unfolding declarations_of declaration_of
  turned_list =
      ap (λ (n : ℕ). tabulate n (declaration_of c)) (turned_declarations b c t)
      ∙ tabulate_same (declarations b) (declaration_of c) (declaration_of b) (λ d l. rw (turned_kind b c t d, turned_first b c t d, turned_second b c t d) refl)

  -- So are the circles.
  turned_circles : circles c ≡ circles b
  turned_circles = ap₂ (λ (n : ℕ) (ls : List Declaration). first_refusal n (circle n ls)) (same_productions b c (turned_front b c t)) turned_list

  -- Checking gives the same, number and place included.
  pub turned_checked : checked c ≡ checked b
  turned_checked = checked_parts c ∙ rw (turned_frame b c t, turned_bodies b c t, turned_circles) refl ∙ sym (checked_parts b)

  module _ (p i q : ℕ) (lp : p < productions b) (li : i < argument_count b p) (lq : q < productions b) where
    -- The same conflicts, by the test
    pub turned_conflicts : conflicts c p i q ≡ conflicts b p i q
    turned_conflicts = ap (λ (ls : List Declaration). conflicts_in c ls p i q) turned_list ∙ front_conflicts b c (turned_front b c t) p i q lp li lq (declarations_of b)

    -- and by the patterns
    pub turned_conflict : Conflict c p i q ↔ Conflict b p i q
    turned_conflict =
        let same = turned_front b c t in (
          (λ h. front_conflict c b (front_back b c same) p i q (omega (arith, same_productions b c same)) (omega (arith, same_count b c same p lp)) (omega (arith, same_productions b c same))
              (subst (λ (ls : List Declaration). ConflictIn c ls p i q) turned_list h)),
          (λ h. subst (λ (ls : List Declaration). ConflictIn c ls p i q) (sym turned_list) (front_conflict b c same p i q lp li lq h)),
        )

-- A check that passes may stand between those of the productions and those of the declarations: a grammar whose ranges rise is judged as it was with refusal 6.
pub rising_judged : (b : List ℕ) {six : Verdict} → six ≡ accepted
    → checked b ≡ in_order
    (short_header b
    ∷ bad_header b
    ∷ short_contents b
    ∷ bad_argument_counts b
    ∷ bad_range_counts b
    ∷ bad_length b
    ∷ bad_productions b
    ∷ six
    ∷ bad_declarations b
    ∷ repeated_productions b
    ∷ circles b
    ∷ [])
unfolding checked
rising_judged b e = rw e refl
