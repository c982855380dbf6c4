-- A grammar is accepted exactly if no condition of the table holds, and refused exactly by the first that does.
use Prim.Native.Nat.{ℕ, zero, suc, ◌≤◌, ◌<◌}
use mathlib.Core.Path.{◌≡◌, refl, sym, ◌∙◌, ap, subst}
use mathlib.Core.List.{List}
use mathlib.Core.Logic.{◌≢◌, ⊎_elim}
use native.Mathlib.Omega.{arith}
use Rattle.common.proofs.BelowLaws.{any_never, any_found}
use Rattle.common.proofs.BoolLaws.{not_both}
use Rattle.common.specs.Below.{any_below}
use Rattle.grammar.proofs.FormedLaws.{inside, order_accepted, well_formed}
use Rattle.refusal.proofs.VerdictLaws.{refused_not_accepted, refuse_accepted, first_all, refuse_case, and_first, and_second, first_of}
use Rattle.grammar.specs.Check.{outside, bad_argument_counts, bad_range_counts, names_argument, bad_productions, bad_declarations, same_production, repeated_production, frame_lines, frame_check, bodies_lines, bodies_check}
use Rattle.grammar.specs.Formed.{WellFormed}
use Rattle.refusal.specs.Verdict.{Verdict, accepted, refused, by_number, RefusedBy}
use Rattle.std.specs.Prelude.{Ok, Err}
use Rattle.refusal.specs.declared.Refusal.{Refusal}
use Rattle.layout.proofs.FramedLaws.{bodies_in}
use Rattle.layout.proofs.LayoutLaws.{production_first, production_after, production_before, class_first}
use Rattle.layout.specs.Layout.{sorts, productions, production_at, argument, kind}
use Rattle.layout.specs.Limits.{sort_limit, production_limit, kind_limit, header_length}
use Rattle.priority.proofs.PriorityLaws.{higher_chain}
use Rattle.priority.proofs.BodiesStageLaws.{names_in, declaration_in, classes_in, given5, none5}
use Rattle.priority.proofs.StageLaws.{in_order, stage, checked_stages, Line, line, Given, given1, none1, given1', none1', given2, none2, given3, none3, given4, none4}
use Rattle.priority.specs.Check.{circle, checked}
use Rattle.priority.specs.Priorities.{declarations_of, Higher, is_higher}
use Rattle.priority.specs.Refusals.{BadHeaderByte, bad_sorts, bad_production_count, bad_class_count, bad_start, bad_last, LargeCount, many_arguments, many_ranges, NamesNothing, no_result, no_argument, BadDeclarationByte, bad_kind, bad_first, bad_second, bad_group, EqualsEarlier, OnCircle, Holds, refusal1, refusal1', refusal2, refusal3, refusal4, refusal5, refusal7, refusal8, refusal9, First}
use Rattle.refusal.specs.declared.Fault.TheVariants.{Absent, Repeated, Circle}
use Rattle.refusal.specs.Fault.{number_of}

module _ (b : List ℕ) where
  -- ---- 8

  no_earlier : (p : ℕ) → repeated_production b p ≡ accepted → EqualsEarlier b p → ⊥
  unfolding repeated_production
  no_earlier p e h =
      not_both (same_production b p h.earlier) h.same
      (any_never (same_production b p) p (refuse_accepted _ Repeated (production_at b p) e) h.earlier h.is_earlier)

  given8 : {r : Refusal} → stage b 6 ≡ Err r → Given b 6 (number_of r.fault) r.place
  unfolding repeated_production
  given8 e =
      let f = first_of (repeated_production b) (productions b) e in
      let p = f.index in
      refuse_case (by_number (Given b 6)) (any_below p (same_production b p)) Repeated (production_at b p) f.refused
      (λ t. let (q, l, s) = any_found (same_production b p) p t in (
        refusal8 (record { there = f.below; earlier = q; is_earlier = l; same = s }),
        λ m j h (_, r, place, x). ⊎_elim
            (λ o. no_earlier r (f.before r o) x)
            (⊎_elim (λ o. omega (arith, ap (production_at b) o)) (λ o. omega (arith, production_before b p r o)))
            (in_order r p),
      ))

  none8 : stage b 6 ≡ accepted → {n k : ℕ} → Line b 6 n k → ⊥
  none8 e (_, p, _, h) = no_earlier p (first_all (repeated_production b) (productions b) e p h.there) h

  -- ---- 9

  module _ (w : WellFormed b) where
    no_circle : (p : ℕ) → circle (productions b) (declarations_of b) p ≡ accepted → OnCircle b p → ⊥
    unfolding circle
    no_circle p e h = not_both (is_higher b p p) ((higher_chain b w p p).1 h.circle) (refuse_accepted _ Circle p e)

    given9 : {r : Refusal} → stage b 7 ≡ Err r → Given b 7 (number_of r.fault) r.place
    unfolding circle
    given9 e =
        let f = first_of (circle (productions b) (declarations_of b)) (productions b) e in
        let p = f.index in
        refuse_case (by_number (Given b 7)) (is_higher b p p) Circle p f.refused
        (λ t. (refusal9 (record { there = f.below; circle = (higher_chain b w p p).0 t }), λ m j h x. no_circle j (f.before j h) x.1))

    none9 : stage b 7 ≡ accepted → {n k : ℕ} → Line b 7 n k → ⊥
    none9 e {n} {k} h = no_circle k (first_all (circle (productions b) (declarations_of b)) (productions b) e k h.1.there) h.1

  -- ---- all stages

  -- frame and bodies pass, if the stages before 7 do
  formed : ((s : ℕ) → s < 7 → stage b s ≡ accepted) → WellFormed b
  unfolding frame_check bodies_check
  formed pass =
      let counts = pass 3 (omega arith) in
      let bodies = pass 5 (omega arith) in
      well_formed b
      (order_accepted (frame_lines b) (pass 0 (omega arith), (pass 1 (omega arith), (pass 2 (omega arith), (and_first (bad_argument_counts b) (bad_range_counts b) counts, (and_second (bad_argument_counts b) (bad_range_counts b) counts, (pass 4 (omega arith), tt)))))))
      (order_accepted (bodies_lines b) (and_first (bad_productions b) (bad_declarations b) bodies, (and_second (bad_productions b) (bad_declarations b) bodies, (pass 6 (omega arith), tt))))

  given : (s : ℕ) → ((r : ℕ) → r < s → stage b r ≡ accepted) → {r : Refusal} → stage b s ≡ Err r → Given b s (number_of r.fault) r.place
  given zero pass e = given1 b e
  given (suc zero) pass e = given2 b e
  given (suc (suc zero)) pass e = given1' b e
  given (suc (suc (suc zero))) pass e = given3 b e
  given (suc (suc (suc (suc zero)))) pass e = given4 b e
  given (suc (suc (suc (suc (suc zero))))) pass e = given5 b e
  given (suc (suc (suc (suc (suc (suc zero)))))) pass e = given8 e
  given (suc (suc (suc (suc (suc (suc (suc zero))))))) pass e = given9 (formed pass) e
  given (suc (suc (suc (suc (suc (suc (suc (suc s)))))))) pass {r} e = refused_not_accepted r (sym e)

  none_at : (s : ℕ) → ((r : ℕ) → r < s → stage b r ≡ accepted) → stage b s ≡ accepted → (n k : ℕ) → Line b s n k → ⊥
  none_at zero pass e n k h = none1 b e h
  none_at (suc zero) pass e n k h = none2 b e h
  none_at (suc (suc zero)) pass e n k h = none1' b e h
  none_at (suc (suc (suc zero))) pass e n k h = none3 b e h
  none_at (suc (suc (suc (suc zero)))) pass e n k h = none4 b e h
  none_at (suc (suc (suc (suc (suc zero))))) pass e n k h = none5 b e h
  none_at (suc (suc (suc (suc (suc (suc zero)))))) pass e n k h = none8 e h
  none_at (suc (suc (suc (suc (suc (suc (suc zero))))))) pass e n k h = none9 (formed pass) e h
  none_at (suc (suc (suc (suc (suc (suc (suc (suc s)))))))) pass e n k h = h

  -- a refusal's number, by its stage and place
  number_same : (s n m k : ℕ) → Line b s n k → Line b s m k → n ≡ m
  number_same zero n m k a c = omega (arith, a.0, c.0)
  number_same (suc zero) n m k a c = omega (arith, a.0, c.0)
  number_same (suc (suc zero)) n m k a c = omega (arith, a.0, c.0)
  number_same (suc (suc (suc zero))) n m k a c = omega (arith, a.0, c.0)
  number_same (suc (suc (suc (suc zero)))) n m k a c = omega (arith, a.0, c.0)
  number_same (suc (suc (suc (suc (suc zero))))) n m k a c =
      ⊎_elim
      (λ x. ⊎_elim (λ y. omega (arith, x.0, y.0)) (λ y. absurd (omega (arith, names_in b x.1, declaration_in b y.1, classes_in b))) c)
      (λ x. ⊎_elim (λ y. absurd (omega (arith, declaration_in b x.1, names_in b y.1, classes_in b))) (λ y. omega (arith, x.0, y.0)) c)
      a
  number_same (suc (suc (suc (suc (suc (suc zero)))))) n m k a c = omega (arith, a.0, c.0)
  number_same (suc (suc (suc (suc (suc (suc (suc zero))))))) n m k a c = omega (arith, a.0, c.0)
  number_same (suc (suc (suc (suc (suc (suc (suc (suc s)))))))) n m k a c = absurd a

  -- there are eight stages, and numbers up to 9 without 6
  holds_small : {s n k : ℕ} → Holds b s n k → (s < 8) × (n ≤ 9) × (n ≢ 6)
  holds_small (refusal1 h) = (omega arith, omega arith, λ e. omega arith)
  holds_small (refusal2 h) = (omega arith, omega arith, λ e. omega arith)
  holds_small (refusal1' h) = (omega arith, omega arith, λ e. omega arith)
  holds_small (refusal3 h) = (omega arith, omega arith, λ e. omega arith)
  holds_small (refusal4 h) = (omega arith, omega arith, λ e. omega arith)
  holds_small (refusal5 h) = (omega arith, omega arith, λ e. omega arith)
  holds_small (refusal7 h) = (omega arith, omega arith, λ e. omega arith)
  holds_small (refusal8 h) = (omega arith, omega arith, λ e. omega arith)
  holds_small (refusal9 h) = (omega arith, omega arith, λ e. omega arith)

  -- ---- the table, both ways

  -- A refusal is the first of the table.
  pub refused_first : {r : Refusal} → checked b ≡ Err r → First b (number_of r.fault) r.place
  refused_first e =
      let f = first_of (stage b) 8 (sym (checked_stages b) ∙ e) in
      let g = given f.index f.before f.refused in
      record {
        stage = f.index;
        holds = g.0;
        earlier = λ s m j l h. none_at s (λ r o. f.before r (omega arith)) (f.before s l) m j (line b h);
        lower = λ m j l h. g.1 m j l (line b h);
      }

  -- Its number is one of 1 to 9.
  pub checked_number : {r : Refusal} → checked b ≡ Err r → number_of r.fault ≤ 9
  checked_number e = (holds_small (refused_first e).holds).1

  -- Of an accepted grammar no condition holds.
  pub accepted_free : checked b ≡ accepted → (s n k : ℕ) → Holds b s n k → ⊥
  accepted_free e s n k h =
      let pass = first_all (stage b) 8 (sym (checked_stages b) ∙ e) in
      let l = (holds_small h).0 in
      none_at s (λ r o. pass r (omega arith)) (pass s l) n k (line b h)

  -- Two refusals that are first are the same.
  first_unique : {n k m j : ℕ} → First b n k → First b m j → (n ≡ m) × (k ≡ j)
  first_unique {n} {k} {m} {j} a c =
      let same : a.stage ≡ c.stage =
      ⊎_elim (λ o. absurd (c.earlier a.stage n k o a.holds)) (⊎_elim (λ o. o) (λ o. absurd (a.earlier c.stage m j o c.holds))) (in_order a.stage c.stage) in
      let other : Holds b a.stage m j = subst (λ (s : ℕ). Holds b s m j) (sym same) c.holds in
      let mine : Holds b c.stage n k = subst (λ (s : ℕ). Holds b s n k) same a.holds in
      let place : k ≡ j =
      ⊎_elim (λ o. absurd (c.lower n k o mine)) (⊎_elim (λ o. o) (λ o. absurd (a.lower m j o other))) (in_order k j) in
      (number_same a.stage n m j (line b (subst (λ (x : ℕ). Holds b a.stage n x) place a.holds)) (line b other), place)

  -- The first of the table is the refusal.
  pub first_refused : {n k : ℕ} → First b n k → RefusedBy (checked b) n k
  first_refused {n} {k} f = by_verdict (checked b) refl
    where
      by_verdict : (v : Verdict) → checked b ≡ v → RefusedBy (checked b) n k
      by_verdict (Ok _) e = absurd (accepted_free e f.stage n k f.holds)
      by_verdict (Err r) e = let (x, y) = first_unique (refused_first e) f in (r, e, x, y)

  -- A grammar of which no condition holds is accepted.
  pub free_accepted : ((s n k : ℕ) → Holds b s n k → ⊥) → checked b ≡ accepted
  free_accepted free = by_verdict (checked b) refl
    where
      by_verdict : (v : Verdict) → checked b ≡ v → checked b ≡ accepted
      by_verdict (Ok _) e = e
      by_verdict (Err r) e = let f = refused_first e in absurd (free f.stage _ _ f.holds)

  -- The place of 7 is a byte behind the header.
  pub seven_place : {k : ℕ} → checked b ≡ refused Absent k → header_length ≤ k
  seven_place {k} e = by_stage (refused_first e).holds refl
    where
      by_stage : {s n j : ℕ} → Holds b s n j → n ≡ 7 → header_length ≤ j
      by_stage (refusal1 h) o = absurd (omega arith)
      by_stage (refusal2 h) o = absurd (omega arith)
      by_stage (refusal1' h) o = absurd (omega arith)
      by_stage (refusal3 h) o = absurd (omega arith)
      by_stage (refusal4 h) o = absurd (omega arith)
      by_stage (refusal5 h) o = absurd (omega arith)
      by_stage (refusal7 h) o = omega (arith, declaration_in b h, classes_in b, class_first b, production_first b, production_after b (productions b))
      by_stage (refusal8 h) o = absurd (omega arith)
      by_stage (refusal9 h) o = absurd (omega arith)

-- ---- a well-formed grammar without a circle

module _ (b : List ℕ) (w : WellFormed b) where
  -- no byte of its header is outside its range
  no_bad_header : {k : ℕ} → BadHeaderByte b k → ⊥
  no_bad_header (bad_sorts h) = not_both (outside 1 sort_limit (sorts b)) h (inside 1 sort_limit (sorts b) w.framed.some_sort w.framed.few_sorts)
  no_bad_header (bad_production_count h) =
      not_both (outside 1 production_limit (productions b)) h (inside 1 production_limit (productions b) w.framed.some_production w.framed.few_productions)
  no_bad_header (bad_class_count h) = omega (arith, w.framed.few_classes)
  no_bad_header (bad_start h) = omega (arith, w.framed.start_named)
  no_bad_header (bad_last h) = omega (arith, w.framed.last_zero)

  -- no count is too large
  no_large_count : {k : ℕ} → LargeCount b k → ⊥
  no_large_count (many_arguments p l h) = omega (arith, w.framed.few_arguments p l)
  no_large_count (many_ranges k l h) = omega (arith, w.framed.few_ranges k l)

  -- results and arguments name something
  all_named : {k : ℕ} → NamesNothing b k → ⊥
  all_named (no_result p l h) = omega (arith, w.result_named p l)
  all_named (no_argument p i l m h) = not_both (names_argument b (argument b p i)) (w.argument_named p i l m) h

  -- declarations are as they should be
  no_bad_declaration : {k : ℕ} → BadDeclarationByte b k → ⊥
  no_bad_declaration (bad_kind d l h) = not_both (outside 1 kind_limit (kind b d)) h (inside 1 kind_limit (kind b d) (w.some_kind d l) (w.few_kinds d l))
  no_bad_declaration (bad_first d l h) = omega (arith, w.first_there d l)
  no_bad_declaration (bad_second d l h) = omega (arith, w.second_there d l)
  no_bad_declaration (bad_group d l g h) = omega (arith, w.groups_rise d l g)

  -- It is accepted.
  pub formed_accepted : ((p : ℕ) → p < productions b → Higher b p p → ⊥) → checked b ≡ accepted
  formed_accepted acyclic = free_accepted b by_stage
    where
      by_stage : (s n k : ℕ) → Holds b s n k → ⊥
      by_stage s n k (refusal1 h) = omega (arith, w.framed.header)
      by_stage s n k (refusal2 h) = no_bad_header h
      by_stage s n k (refusal1' h) = omega (arith, bodies_in b w.framed)
      by_stage s n k (refusal3 h) = no_large_count h
      by_stage s n k (refusal4 h) = h w.framed.length_is
      by_stage s n k (refusal5 h) = all_named h
      by_stage s n k (refusal7 h) = no_bad_declaration h
      by_stage s n k (refusal8 {p} h) = not_both (same_production b p h.earlier) h.same (w.different p h.earlier h.there h.is_earlier)
      by_stage s n k (refusal9 {p} h) = acyclic p h.there h.circle
