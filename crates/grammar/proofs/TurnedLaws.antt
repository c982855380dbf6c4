-- A grammar with ranges turned round (02, [3]): every check of its bytes gives what it gave. And a grammar whose ranges rise is judged as before, when refusal 6 was there.
use Prim.Native.Nat.{ℕ, ◌+◌, ◌≤◌, ◌<◌}
use mathlib.Core.Path.{◌≡◌, refl, sym, ◌∙◌, ap, ap₂}
use mathlib.Core.Bool.{Bool, true, not}
use mathlib.Core.List.{List}
use mathlib.Core.Logic.{◌↔◌}
use native.Mathlib.Omega.{arith}
use lib.Dec.{ltb}
use borrow.Author.Tests.{le-ltb}
use Rattle.charset.proofs.SpansLaws.{spans_rising}
use Rattle.charset.specs.Set.{in_range, spans}
use Rattle.classes.specs.Classes.{class_has}
use Rattle.common.proofs.BelowLaws.{any_same, any_here, any_found, between_in, between_ends}
use Rattle.grammar.proofs.SameFrontLaws.{SameFront, front_classes, front_back, same_sorts, same_productions, same_classes, same_start, same_last, same_count, same_range_count, same_production_at, same_class_at, same_declaration_at, same_result, same_argument_lem, same_names, same_sameness}
use Rattle.refusal.proofs.VerdictLaws.{first_same, first_pass}
use Rattle.grammar.specs.Check.{short_header, bad_header, short_contents, bad_argument_count, bad_range_count, bad_argument_counts, bad_range_counts, bad_length, names_argument, bad_argument, bad_arguments, bad_production, bad_productions, bad_declaration, bad_declarations, same_production, repeated_production, repeated_productions, frame_check, bodies_check}
use Rattle.grammar.specs.Turned.{TurnedRound, RangesRise}
use Rattle.refusal.specs.Verdict.{Verdict, accepted, refuse_if, first_refusal}
use Rattle.refusal.specs.declared.Refusal.{Refusal}
use Rattle.std.specs.Prelude.{cond, Err}
use Rattle.layout.proofs.LayoutLaws.{declaration_after_classes, needed_is_end}
use Rattle.layout.specs.Layout.{byte_at, productions, classes, declarations, argument_count, range_count, argument, range_at, low, high, declaration_at, kind, first, second, needed_length}
use Rattle.layout.specs.Limits.{argument_limit, range_limit, header_length}
use Rattle.refusal.specs.declared.Fault.TheVariants.{Count, Name, Repeated}

module _ (b c : List ℕ) (t : TurnedRound b c) where
  -- It differs from the grammar only where the ranges stand.
  pub turned_front : SameFront b c
  turned_front = record { before = λ at l h. t.before at l; ranges = t.ranges }

  -- ---- the frame

  -- how many declarations there are
  pub turned_declarations : declarations c ≡ declarations b
  turned_declarations = t.before 3 (omega (arith, front_classes b))

  -- the length called for
  turned_needed : needed_length c ≡ needed_length b
  turned_needed =
      needed_is_end c ∙ ap (declaration_at c) turned_declarations ∙ same_declaration_at b c turned_front (declarations b) ∙ sym (needed_is_end b)

  turned_argument_counts : bad_argument_counts c ≡ bad_argument_counts b
  unfolding bad_argument_count
  turned_argument_counts =
      ap (λ (n : ℕ). first_refusal n (bad_argument_count c)) (same_productions b c turned_front)
      ∙ first_same (bad_argument_count c) (bad_argument_count b) (productions b)
      (λ p l. ap (λ (n : ℕ). refuse_if (ltb argument_limit n) Count (header_length + p)) (same_count b c turned_front p l))

  turned_range_counts : bad_range_counts c ≡ bad_range_counts b
  unfolding bad_range_count
  turned_range_counts =
      ap (λ (n : ℕ). first_refusal n (bad_range_count c)) (same_classes b c turned_front)
      ∙ first_same (bad_range_count c) (bad_range_count b) (classes b)
      (λ k l. ap₂ (λ (n m : ℕ). refuse_if (ltb range_limit n) Count (header_length + m + k)) (same_range_count b c turned_front k l) (same_productions b c turned_front))

  -- Refusals 1 to 4 are the same.
  pub turned_frame : frame_check c ≡ frame_check b
  unfolding frame_check short_header bad_header short_contents bad_length
  turned_frame =
      rw (turned_argument_counts, turned_range_counts, turned_needed, t.long, same_sorts b c turned_front, same_productions b c turned_front, same_classes b c turned_front, same_start b c turned_front, same_last b c turned_front) refl

  -- ---- the bodies

  -- the arguments of a production
  turned_arguments : (p : ℕ) → p < productions b → bad_arguments c p ≡ bad_arguments b p
  unfolding bad_argument
  turned_arguments p l =
      ap (λ (n : ℕ). first_refusal n (bad_argument c p)) (same_count b c turned_front p l)
      ∙ first_same (bad_argument c p) (bad_argument b p) (argument_count b p)
      (λ i m. ap₂ (λ (v : Bool) (at : ℕ). refuse_if (not v) Name (at + 1 + i))
      (same_names b c turned_front (argument c p i) ∙ ap (names_argument b) (same_argument_lem b c turned_front p i l m))
      (same_production_at b c turned_front p (omega arith)))

  turned_productions : bad_productions c ≡ bad_productions b
  unfolding bad_production
  turned_productions =
      ap (λ (n : ℕ). first_refusal n (bad_production c)) (same_productions b c turned_front)
      ∙ first_same (bad_production c) (bad_production b) (productions b)
      (λ p l. rw (same_sorts b c turned_front, same_result b c turned_front p l, same_production_at b c turned_front p (omega arith), turned_arguments p l) refl)

  -- a number of declaration d
  turned_number : (d i j : ℕ) → j ≡ declaration_at c d + i → byte_at c j ≡ byte_at b (declaration_at b d + i)
  turned_number d i j e =
      let same : declaration_at c d ≡ declaration_at b d = same_declaration_at b c turned_front d in
      let at : j ≡ declaration_at b d + i = omega arith in
      ap (byte_at c) at ∙ t.behind (declaration_at b d + i) (omega (arith, declaration_after_classes b d))

  pub turned_kind : (d : ℕ) → kind c d ≡ kind b d
  unfolding kind
  turned_kind d = turned_number d 0 (declaration_at c d) (omega arith) ∙ ap (byte_at b) (omega arith)

  pub turned_first : (d : ℕ) → first c d ≡ first b d
  unfolding first
  turned_first d = turned_number d 1 (declaration_at c d + 1) refl

  pub turned_second : (d : ℕ) → second c d ≡ second b d
  unfolding second
  turned_second d = turned_number d 2 (declaration_at c d + 2) refl

  turned_bad_declarations : bad_declarations c ≡ bad_declarations b
  unfolding bad_declaration
  turned_bad_declarations =
      ap (λ (n : ℕ). first_refusal n (bad_declaration c)) turned_declarations
      ∙ first_same (bad_declaration c) (bad_declaration b) (declarations b)
      (λ d l. rw (same_declaration_at b c turned_front d, same_productions b c turned_front, turned_kind d, turned_first d, turned_second d) refl)

  turned_repeated : repeated_productions c ≡ repeated_productions b
  unfolding repeated_production
  turned_repeated =
      ap (λ (n : ℕ). first_refusal n (repeated_production c)) (same_productions b c turned_front)
      ∙ first_same (repeated_production c) (repeated_production b) (productions b)
      (λ p l. ap₂ (λ (v : Bool) (at : ℕ). refuse_if v Repeated at)
      (any_same (same_production c p) (same_production b p) p (λ q m. same_sameness b c turned_front p q l (omega arith)))
      (same_production_at b c turned_front p (omega arith)))

  -- Refusals 5, 7 and 8 are the same.
  pub turned_bodies : bodies_check c ≡ bodies_check b
  unfolding bodies_check
  turned_bodies = rw (turned_productions, turned_bad_declarations, turned_repeated) refl

  -- ---- and back

  -- Turned round once more, the ranges are as they were.
  pub turned_back : TurnedRound c b
  turned_back =
      let back = front_back b c turned_front in
      record {
        long = sym t.long;
        before = λ at l. sym (t.before at (omega (arith, same_class_at b c turned_front 0 (omega arith))));
        ranges = back.ranges;
        behind = λ at l. sym (t.behind at (omega (arith, same_declaration_at b c turned_front 0)));
      }

-- ---- a grammar whose ranges rise

module _ (b : List ℕ) (rise : RangesRise b) where
  -- A class has the characters that it had.
  pub rising_characters : (k c : ℕ) → k < classes b → (class_has b k c ≡ true) ↔ ((r : ℕ) × (r < range_count b k) × (low b k r ≤ c) × (c ≤ high b k r))
  unfolding class_has in_range
  rising_characters k c l =
      let test : ℕ → Bool = λ r. spans (low b k r) (high b k r) c in
      let same : (r : ℕ) → r < range_count b k → test r ≡ in_range (low b k r) (high b k r) c = λ r m. spans_rising (low b k r) (high b k r) c (rise k r l m) in (
        (λ e. let (r, m, h) = any_found test (range_count b k) e in
            let (least, most) = between_ends (low b k r) (high b k r) c (sym (same r m) ∙ h) in (r, m, least, most)),
        (λ (r, m, least, most). any_here test r (range_count b k) m (same r m ∙ between_in (low b k r) (high b k r) c least most)),
      )

  -- what refusal 6, whichever that was, said of range r of class k
  abbrev six : (ℕ → Refusal) → ℕ → ℕ → Verdict
  six refusal k r = cond (ltb (high b k r) (low b k r)) (Err (refusal (range_at b k r))) accepted

  -- It would have let the grammar through.
  pub rising_passed : (refusal : ℕ → Refusal) → first_refusal (classes b) (λ k. first_refusal (range_count b k) (six refusal k)) ≡ accepted
  rising_passed refusal =
      first_pass (λ k. first_refusal (range_count b k) (six refusal k)) (classes b)
      (λ k l. first_pass (six refusal k) (range_count b k)
      (λ r m. ap (λ (v : Bool). cond v (Err (refusal (range_at b k r))) accepted) (le-ltb (high b k r) (low b k r) (rise k r l m))))
