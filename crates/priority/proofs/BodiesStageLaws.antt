-- The stage of refusals 5 and 7: the first bad byte of the bodies.
use Prim.Native.Nat.{ℕ, ◌+◌, ◌≤◌, ◌<◌}
use mathlib.Core.Path.{◌≡◌, sym, ap, subst}
use mathlib.Core.Bool.{false, true, not, ◌&&◌}
use mathlib.Core.List.{List}
use mathlib.Core.Logic.{⊎_elim}
use native.Mathlib.Omega.{arith}
use lib.Dec.{leb, ltb}
use borrow.Author.Tests.{ltb-true, leb-true, leb-false, not-true, not-false}
use Rattle.common.proofs.BoolLaws.{and_first_true, and_second_true, not_both}
use Rattle.grammar.proofs.FormedLaws.{result_named_lem, argument_named_lem, kind_inside, first_there_lem, second_there_lem, group_rises_lem}
use Rattle.refusal.proofs.VerdictLaws.{refuse_accepted, first_all, refuse_case, and_refused, and_first, and_second, FirstIn, here, there, order_first, first_of}
use Rattle.grammar.specs.Check.{outside, names_argument, bad_argument, bad_arguments, bad_production, bad_productions, is_group, declaration_lines, declaration_bytes, bad_declaration, bad_declarations}
use Rattle.refusal.specs.Verdict.{refuse_if, accepted, by_number}
use Rattle.std.specs.Prelude.{Err}
use Rattle.refusal.specs.declared.Refusal.{Refusal}
use Rattle.layout.proofs.LayoutLaws.{production_before, production_within, class_after_productions, declaration_before, declaration_after_classes}
use Rattle.layout.specs.Layout.{sorts, productions, classes, declarations, argument_count, production_at, argument_at, result_sort, argument, class_at, declaration_at, kind, first, second}
use Rattle.layout.specs.Limits.{kind_limit}
use Rattle.priority.proofs.StageLaws.{in_order, stage, Line, Given}
use Rattle.priority.specs.Refusals.{NamesNothing, no_result, no_argument, BadDeclarationByte, bad_kind, bad_first, bad_second, bad_group, refusal5, refusal7}
use Rattle.refusal.specs.declared.Fault.TheVariants.{Name, Absent}
use Rattle.refusal.specs.Fault.{number_of}

module _ (b : List ℕ) where
  -- ---- 5 and 7: where their bytes stand

  pub names_in : {j : ℕ} → NamesNothing b j → j < class_at b 0
  names_in (no_result p l t) = omega (arith, production_within b p l)
  names_in (no_argument p i l m t) = omega (arith, production_within b p l)

  pub declaration_in : {j : ℕ} → BadDeclarationByte b j → declaration_at b 0 ≤ j
  declaration_in (bad_kind d l t) = declaration_after_classes b d
  declaration_in (bad_first d l t) = omega (arith, declaration_after_classes b d)
  declaration_in (bad_second d l t) = omega (arith, declaration_after_classes b d)
  declaration_in (bad_group d l g t) = omega (arith, declaration_after_classes b d)

  -- classes end where declarations begin
  pub classes_in : class_at b 0 ≤ declaration_at b 0
  unfolding declaration_at
  classes_in = omega (arith, class_after_productions b (classes b))

  -- ---- 5

  -- no byte below k names nothing, if k stands in production p, those before p pass, and the bytes of p before k name something
  names_lower : (p k : ℕ) → ((q : ℕ) → q < p → bad_production b q ≡ accepted) → k < production_at b p + (1 + argument_count b p) → (production_at b p < k → result_sort b p < sorts b)
      → ((i : ℕ) → i < argument_count b p → argument_at b p i < k → names_argument b (argument b p i) ≡ true) → (j : ℕ) → j < k → NamesNothing b j → ⊥
  names_lower p k pass within own others j h (no_result q l t) =
      ⊎_elim
      (λ o. omega (arith, result_named_lem b q (pass q o)))
      (⊎_elim (λ o. omega (arith, ap (result_sort b) o, ap (production_at b) o, own (omega (arith, ap (production_at b) o)))) (λ o. omega (arith, production_before b p q o)))
      (in_order q p)
  names_lower p k pass within own others j h (no_argument q i l m t) =
      ⊎_elim
      (λ o. not_both (names_argument b (argument b q i)) (argument_named_lem b q (pass q o) i m) t)
      (⊎_elim
      (λ o. not_both (names_argument b (argument b q i))
      (subst (λ (x : ℕ). names_argument b (argument b x i) ≡ true) (sym o) (others i (omega (arith, ap (argument_count b) o)) (omega (arith, ap (production_at b) o)))) t)
      (λ o. omega (arith, production_before b p q o)))
      (in_order q p)

  -- none does at all, if every production passes
  names_none : ((q : ℕ) → q < productions b → bad_production b q ≡ accepted) → {j : ℕ} → NamesNothing b j → ⊥
  names_none pass (no_result q l t) = omega (arith, result_named_lem b q (pass q l))
  names_none pass (no_argument q i l m t) = not_both (names_argument b (argument b q i)) (argument_named_lem b q (pass q l) i m) t

  -- below a byte of a production stand only bytes of productions
  lower5 : (k : ℕ) → k < class_at b 0 → ((j : ℕ) → j < k → NamesNothing b j → ⊥) → (m j : ℕ) → j < k → Line b 5 m j → ⊥
  lower5 k h below m j l =
      ⊎_elim (λ x. below j l x.1) (λ x. omega (arith, declaration_in x.1, classes_in))

  by_argument : (p : ℕ) → p < productions b → ((q : ℕ) → q < p → bad_production b q ≡ accepted) → result_sort b p < sorts b → {r : Refusal} → bad_arguments b p ≡ Err r → Given b 5 (number_of r.fault) r.place
  unfolding bad_argument
  by_argument p l pass own e =
      let f = first_of (bad_argument b p) (argument_count b p) e in
      let i = f.index in
      refuse_case (by_number (Given b 5)) (not (names_argument b (argument b p i))) Name (argument_at b p i) f.refused
      (λ t. (
        refusal5 (no_argument p i l f.below (not-true (names_argument b (argument b p i)) t)),
        lower5 (argument_at b p i) (omega (arith, production_within b p l, f.below))
            (names_lower p (argument_at b p i) pass (omega (arith, f.below)) (λ h. own)
            (λ x y h. not-false (names_argument b (argument b p x)) (refuse_accepted _ Name (argument_at b p x) (f.before x (omega arith))))),
      ))

  bad_production_lem : {r : Refusal} → bad_productions b ≡ Err r → Given b 5 (number_of r.fault) r.place
  unfolding bad_production
  bad_production_lem e =
      let f = first_of (bad_production b) (productions b) e in
      let p = f.index in
      let own = leb (sorts b) (result_sort b p) in
      ⊎_elim
      (λ a. refuse_case (by_number (Given b 5)) own Name (production_at b p) a
      (λ t. (
        refusal5 (no_result p f.below (leb-true (sorts b) (result_sort b p) t)),
        lower5 (production_at b p) (omega (arith, production_within b p f.below))
            (names_lower p (production_at b p) f.before (omega arith) (λ h. absurd (omega arith)) (λ x y h. absurd (omega arith))),
      )))
      (λ a. by_argument p f.below f.before (leb-false (sorts b) (result_sort b p) (refuse_accepted own Name (production_at b p) a.0)) a.1)
      (and_refused (refuse_if own Name (production_at b p)) (bad_arguments b p) f.refused)

  -- ---- 7

  module _ (productions_pass : bad_productions b ≡ accepted) where
    no_names : {j : ℕ} → NamesNothing b j → ⊥
    no_names = names_none (first_all (bad_production b) (productions b) productions_pass)

    -- no byte below k of a declaration is bad, if k stands in declaration d, those before d pass, and the bytes of d before k do
    declarations_lower : (d k : ℕ) → ((q : ℕ) → q < d → bad_declaration b q ≡ accepted) → k < declaration_at b d + 3 → (declaration_at b d < k → outside 1 kind_limit (kind b d) ≡ false)
        → (declaration_at b d + 1 < k → (first b d < productions b) × (first b d ≤ second b d)) → (j : ℕ) → j < k → BadDeclarationByte b j → ⊥
    declarations_lower d k pass within own own' j h (bad_kind q l t) =
        ⊎_elim
        (λ o. not_both (outside 1 kind_limit (kind b q)) t (kind_inside b q (pass q o)))
        (⊎_elim
        (λ o. not_both (outside 1 kind_limit (kind b q)) t (subst (λ (x : ℕ). outside 1 kind_limit (kind b x) ≡ false) (sym o) (own (omega (arith, ap (declaration_at b) o)))))
        (λ o. omega (arith, declaration_before b d q o)))
        (in_order q d)
    declarations_lower d k pass within own own' j h (bad_first q l t) =
        ⊎_elim
        (λ o. omega (arith, first_there_lem b q (pass q o)))
        (⊎_elim (λ o. omega (arith, ap (first b) o, (own' (omega (arith, ap (declaration_at b) o))).0)) (λ o. omega (arith, declaration_before b d q o)))
        (in_order q d)
    declarations_lower d k pass within own own' j h (bad_second q l t) =
        ⊎_elim
        (λ o. omega (arith, second_there_lem b q (pass q o)))
        (⊎_elim (λ o. omega (arith, ap (declaration_at b) o)) (λ o. omega (arith, declaration_before b d q o)))
        (in_order q d)
    declarations_lower d k pass within own own' j h (bad_group q l g t) =
        ⊎_elim
        (λ o. omega (arith, group_rises_lem b q (pass q o) g))
        (⊎_elim
        (λ o. omega (arith, ap (first b) o, ap (second b) o, (own' (omega (arith, ap (declaration_at b) o))).1))
        (λ o. omega (arith, declaration_before b d q o)))
        (in_order q d)

    lower7 : (k : ℕ) → ((j : ℕ) → j < k → BadDeclarationByte b j → ⊥) → (m j : ℕ) → j < k → Line b 5 m j → ⊥
    lower7 k below m j l = ⊎_elim (λ x. no_names x.1) (λ x. below j l x.1)

    by_declaration : (d : ℕ) → d < declarations b → ((q : ℕ) → q < d → bad_declaration b q ≡ accepted) → {r : Refusal}
        → FirstIn (declaration_lines (declaration_at b d) (productions b) (kind b d) (first b d) (second b d)) r → Given b 5 (number_of r.fault) r.place
    by_declaration d l pass (here e) =
        refuse_case (by_number (Given b 5)) (outside 1 kind_limit (kind b d)) Absent (declaration_at b d) e
        (λ t. (refusal7 (bad_kind d l t), lower7 (declaration_at b d) (declarations_lower d (declaration_at b d) pass (omega arith) (λ h. absurd (omega arith)) (λ h. absurd (omega arith)))))
    by_declaration d l pass (there a (here e)) =
        refuse_case (by_number (Given b 5)) (leb (productions b) (first b d)) Absent (declaration_at b d + 1) e
        (λ t. (
          refusal7 (bad_first d l (leb-true (productions b) (first b d) t)),
          lower7 (declaration_at b d + 1) (declarations_lower d (declaration_at b d + 1) pass (omega arith) (λ h. refuse_accepted _ Absent (declaration_at b d) a) (λ h. absurd (omega arith))),
        ))
    by_declaration d l pass (there a (there c (here e))) =
        refuse_case (by_number (Given b 5)) (leb (productions b) (second b d)) Absent (declaration_at b d + 2) e
        (λ t. (
          refusal7 (bad_second d l (leb-true (productions b) (second b d) t)),
          lower7 (declaration_at b d + 2) (declarations_lower d (declaration_at b d + 2) pass (omega arith) (λ h. refuse_accepted _ Absent (declaration_at b d) a) (λ h. let f = leb-false (productions b) (first b d) (refuse_accepted _ Absent (declaration_at b d + 1) c) in (f, omega (arith, leb-true (productions b) (second b d) t)))),
        ))
    by_declaration d l pass (there a (there c (there s (here e)))) =
        refuse_case (by_number (Given b 5)) (is_group (kind b d) && ltb (second b d) (first b d)) Absent (declaration_at b d + 1) e
        (λ t. (
          refusal7 (bad_group d l (and_first_true (is_group (kind b d)) (ltb (second b d) (first b d)) t) (ltb-true (second b d) (first b d) (and_second_true (is_group (kind b d)) (ltb (second b d) (first b d)) t))),
          lower7 (declaration_at b d + 1) (declarations_lower d (declaration_at b d + 1) pass (omega arith) (λ h. refuse_accepted _ Absent (declaration_at b d) a) (λ h. absurd (omega arith))),
        ))
    by_declaration d l pass (there a (there c (there s (there _ n)))) = elim n [ ]

    bad_declaration_lem : {r : Refusal} → bad_declarations b ≡ Err r → Given b 5 (number_of r.fault) r.place
    unfolding bad_declaration declaration_bytes
    bad_declaration_lem e =
        let f = first_of (bad_declaration b) (declarations b) e in
        let d = f.index in
        by_declaration d f.below f.before (order_first (declaration_lines (declaration_at b d) (productions b) (kind b d) (first b d) (second b d)) f.refused)

  declarations_none : ((q : ℕ) → q < declarations b → bad_declaration b q ≡ accepted) → {j : ℕ} → BadDeclarationByte b j → ⊥
  declarations_none pass (bad_kind q l t) = not_both (outside 1 kind_limit (kind b q)) t (kind_inside b q (pass q l))
  declarations_none pass (bad_first q l t) = omega (arith, first_there_lem b q (pass q l))
  declarations_none pass (bad_second q l t) = omega (arith, second_there_lem b q (pass q l))
  declarations_none pass (bad_group q l g t) = omega (arith, group_rises_lem b q (pass q l) g)

  pub given5 : {r : Refusal} → stage b 5 ≡ Err r → Given b 5 (number_of r.fault) r.place
  given5 e =
      ⊎_elim (λ a. bad_production_lem a) (λ a. bad_declaration_lem a.0 a.1) (and_refused (bad_productions b) (bad_declarations b) e)

  pub none5 : stage b 5 ≡ accepted → {n k : ℕ} → Line b 5 n k → ⊥
  none5 e =
      ⊎_elim
      (λ x. no_names (and_first (bad_productions b) (bad_declarations b) e) x.1)
      (λ x. declarations_none (first_all (bad_declaration b) (declarations b) (and_second (bad_productions b) (bad_declarations b) e)) x.1)
