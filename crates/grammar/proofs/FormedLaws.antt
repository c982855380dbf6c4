-- What the checks that accept say.
use Prim.Native.Nat.{ℕ, ◌+◌, ◌≤◌, ◌<◌}
use mathlib.Core.Path.{◌≡◌, refl, sym, ap}
use mathlib.Core.Bool.{false, true, ◌&&◌}
use mathlib.Core.List.{List, [], ◌∷◌}
use mathlib.Core.Logic.{by_cases}
use native.Mathlib.Omega.{arith}
use native.Mathlib.Decide.{dec_lt}
use lib.Dec.{leb, ltb, eqb}
use lib.ListN.{length}
use borrow.Author.Tests.{ltb-false, leb-false, eqb-true, not-false, lt-ltb, le-ltb}
use Rattle.common.proofs.BelowLaws.{any_never}
use Rattle.common.proofs.BoolLaws.{or_first_false, or_second_false}
use Rattle.refusal.proofs.VerdictLaws.{refuse_accepted, accepted_last, and_first, and_second, first_all}
use Rattle.grammar.specs.Check.{outside, short_header, header_lines, header_bytes, bad_header, short_contents, bad_argument_count, bad_range_count, bad_length, names_argument, bad_argument, bad_arguments, bad_production, is_group, declaration_lines, declaration_bytes, bad_declaration, same_production, repeated_production, frame_lines, frame_check, bodies_lines, bodies_check}
use Rattle.grammar.specs.Formed.{WellFormed}
use Rattle.refusal.specs.Verdict.{refuse_if, and_then, in_order, Verdict, accepted}
use Rattle.layout.specs.Framed.{Framed}
use Rattle.layout.specs.Layout.{byte_at, sorts, productions, classes, declarations, start_sort, argument_count, range_count, production_at, result_sort, argument, declaration_at, kind, first, second, needed_length}
use Rattle.layout.specs.Limits.{sort_limit, production_limit, class_limit, argument_limit, range_limit, kind_limit, pair_kind_limit, header_length}
use Rattle.refusal.specs.declared.Fault.TheVariants.{Short, Header, Count, Length, Name, Absent, Repeated}

module _ (low high x : ℕ) (e : outside low high x ≡ false) where
  inside_low : low ≤ x
  inside_low = ltb-false x low (or_first_false (ltb x low) (ltb high x) e)

  inside_high : x ≤ high
  inside_high = ltb-false high x (or_second_false (ltb x low) (ltb high x) e)

pub inside : (low high x : ℕ) → low ≤ x → x ≤ high → outside low high x ≡ false
inside low high x l h = rw (le-ltb x low l, le-ltb high x h) refl

-- each check of a row that accepts accepts
abbrev pub EachAccepted : List Verdict → Type 0
EachAccepted [] = Unit {0}
EachAccepted (v ∷ vs) = (v ≡ accepted) × EachAccepted vs

pub each_accepted : (vs : List Verdict) → in_order vs ≡ accepted → EachAccepted vs
each_accepted [] e = tt
each_accepted (v ∷ []) e = (e, tt)
each_accepted (v ∷ w ∷ vs) e = (and_first v (in_order (w ∷ vs)) e, each_accepted (w ∷ vs) (and_second v (in_order (w ∷ vs)) e))

-- and back
pub order_accepted : (vs : List Verdict) → EachAccepted vs → in_order vs ≡ accepted
order_accepted [] a = refl
order_accepted (v ∷ []) a = a.0
order_accepted (v ∷ w ∷ vs) a = rw a.0 (order_accepted (w ∷ vs) a.1)

header_inside : (s p k a l : ℕ) → header_bytes s p k a l ≡ accepted
    → (1 ≤ s) × (s ≤ sort_limit) × (1 ≤ p) × (p ≤ production_limit) × (k ≤ class_limit) × (a < s) × (l ≤ 0)
unfolding header_bytes
header_inside s p k a l e =
    let each = each_accepted (header_lines s p k a l) e in
    let sorts = refuse_accepted (outside 1 sort_limit s) Header 0 each.0 in
    let productions = refuse_accepted (outside 1 production_limit p) Header 1 each.1.0 in
    (inside_low 1 sort_limit s sorts, inside_high 1 sort_limit s sorts, inside_low 1 production_limit p productions, inside_high 1 production_limit p productions, ltb-false class_limit k (refuse_accepted (ltb class_limit k) Header 2 each.1.1.0), leb-false s a (refuse_accepted (leb s a) Header 4 each.1.1.1.0), ltb-false 0 l (refuse_accepted (ltb 0 l) Header 5 each.1.1.1.1.0))

pub framed : (b : List ℕ) → frame_check b ≡ accepted → Framed b
unfolding frame_check short_header bad_header short_contents bad_argument_count bad_range_count bad_length
framed b e =
    let a = each_accepted (frame_lines b) e in
    let h = header_inside (sorts b) (productions b) (classes b) (start_sort b) (byte_at b 5) a.1.0 in
    record {
      header = ltb-false (length b) header_length (refuse_accepted (ltb (length b) header_length) Short (length b) a.0);
      some_sort = h.0;
      few_sorts = h.1;
      some_production = h.2;
      few_productions = h.3;
      few_classes = h.4;
      start_named = h.5;
      last_zero = omega (arith, h.6);
      few_arguments = λ p l. ltb-false argument_limit (argument_count b p) (refuse_accepted _ Count _ (first_all (bad_argument_count b) (productions b) a.1.1.1.0 p l));
      few_ranges = λ k l. ltb-false range_limit (range_count b k) (refuse_accepted _ Count _ (first_all (bad_range_count b) (classes b) a.1.1.1.1.0 k l));
      length_is = eqb-true (length b) (needed_length b) (not-false (eqb (length b) (needed_length b)) (refuse_accepted _ Length _ a.1.1.1.1.1.0));
    }

-- a production that passes
module _ (b : List ℕ) (p : ℕ) (e : bad_production b p ≡ accepted) where
  pub result_named_lem : result_sort b p < sorts b
  unfolding bad_production
  result_named_lem = leb-false (sorts b) (result_sort b p) (refuse_accepted _ Name _ (and_first _ (bad_arguments b p) e))

  pub argument_named_lem : (i : ℕ) → i < argument_count b p → names_argument b (argument b p i) ≡ true
  unfolding bad_production bad_argument
  argument_named_lem i l =
      not-false (names_argument b (argument b p i))
      (refuse_accepted _ Name _ (first_all (bad_argument b p) (argument_count b p) (and_second (refuse_if (leb (sorts b) (result_sort b p)) Name (production_at b p)) _ e) i l))

-- a declaration that passes
module _ (b : List ℕ) (d : ℕ) (e : bad_declaration b d ≡ accepted) where
  parts : EachAccepted (declaration_lines (declaration_at b d) (productions b) (kind b d) (first b d) (second b d))
  unfolding bad_declaration declaration_bytes
  parts = each_accepted (declaration_lines (declaration_at b d) (productions b) (kind b d) (first b d) (second b d)) e

  pub kind_inside : outside 1 kind_limit (kind b d) ≡ false
  kind_inside = refuse_accepted _ Absent _ parts.0

  pub first_there_lem : first b d < productions b
  first_there_lem = leb-false (productions b) (first b d) (refuse_accepted _ Absent _ parts.1.0)

  pub second_there_lem : second b d < productions b
  second_there_lem = leb-false (productions b) (second b d) (refuse_accepted _ Absent _ parts.1.1.0)

  pub group_rises_lem : is_group (kind b d) ≡ true → first b d ≤ second b d
  group_rises_lem g = ltb-false (second b d) (first b d) (rw g at (refuse_accepted (is_group (kind b d) && ltb (second b d) (first b d)) Absent _ parts.1.1.1.0))

-- a declaration of two productions is judged as if there were no kinds of groups
no_group_lem : (n : ℕ) → is_group n ≡ false → outside 1 kind_limit n ≡ outside 1 pair_kind_limit n
unfolding is_group
no_group_lem n g =
    by_cases (dec_lt pair_kind_limit n)
    (λ l. let above : kind_limit < n = leb-false n kind_limit (rw (lt-ltb pair_kind_limit n l) at g) in rw (lt-ltb pair_kind_limit n l, lt-ltb kind_limit n above) refl)
    (λ l. rw (le-ltb pair_kind_limit n (omega arith), le-ltb kind_limit n (omega arith)) refl)

pub pair_judged : (b : List ℕ) (d : ℕ) → is_group (kind b d) ≡ false
    → bad_declaration b d ≡ in_order
    (refuse_if (outside 1 pair_kind_limit (kind b d)) Absent (declaration_at b d)
    ∷ refuse_if (leb (productions b) (first b d)) Absent (declaration_at b d + 1)
    ∷ refuse_if (leb (productions b) (second b d)) Absent (declaration_at b d + 2)
    ∷ [])
unfolding bad_declaration declaration_bytes
pair_judged b d g =
    let own = refuse_if (outside 1 pair_kind_limit (kind b d)) Absent (declaration_at b d) in
    let of_first = refuse_if (leb (productions b) (first b d)) Absent (declaration_at b d + 1) in
    rw (g, no_group_lem (kind b d) g) (ap (λ (v : Verdict). and_then own (and_then of_first v)) (sym (accepted_last (refuse_if (leb (productions b) (second b d)) Absent (declaration_at b d + 2)))))

pub well_formed : (b : List ℕ) → frame_check b ≡ accepted → bodies_check b ≡ accepted → WellFormed b
unfolding bodies_check repeated_production
well_formed b e f =
    let a = each_accepted (bodies_lines b) f in
    let production = first_all (bad_production b) (productions b) a.0 in
    let declaration = first_all (bad_declaration b) (declarations b) a.1.0 in
    record {
      framed = framed b e;
      result_named = λ p l. result_named_lem b p (production p l);
      argument_named = λ p i l m. argument_named_lem b p (production p l) i m;
      some_kind = λ d l. inside_low 1 kind_limit (kind b d) (kind_inside b d (declaration d l));
      few_kinds = λ d l. inside_high 1 kind_limit (kind b d) (kind_inside b d (declaration d l));
      first_there = λ d l. first_there_lem b d (declaration d l);
      second_there = λ d l. second_there_lem b d (declaration d l);
      groups_rise = λ d l. group_rises_lem b d (declaration d l);
      different = λ p q l m. any_never (same_production b p) p (refuse_accepted _ Repeated _ (first_all (repeated_production b) (productions b) a.1.1.0 p l)) q m;
    }
