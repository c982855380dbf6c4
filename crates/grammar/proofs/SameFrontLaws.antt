-- Grammars that differ only in their declarations and in which end of a range stands first: all else is the same, and stands in the same place.
use Prim.Native.Nat.{ℕ, ◌+◌, ◌-◌, ◌*◌, ◌≤◌, ◌<◌}
use mathlib.Core.Path.{◌≡◌, sym, ◌∙◌, ap, ap₂, subst}
use mathlib.Core.Bool.{Bool, true, ◌&&◌, ◌||◌, beq}
use mathlib.Core.List.{List}
use mathlib.Core.Logic.{inl, inr, ⊎_elim}
use native.Mathlib.Omega.{arith}
use native.Mathlib.Nat.{add-zero}
use lib.Dec.{leb, ltb, eqb}
use lib.ListN.{length}
use borrow.Author.Tests.{eqb-true}
use Rattle.charset.proofs.SpansLaws.{spans_turned}
use Rattle.charset.specs.Set.{characters, spans, same_set}
use Rattle.classes.proofs.ClassesLaws.{class_there}
use Rattle.classes.specs.Classes.{is_class, class_has, same_class, same_argument}
use Rattle.common.proofs.BelowLaws.{sum_same, any_same, all_same}
use Rattle.common.proofs.BoolLaws.{and_first_true, and_second_true, and_same}
use Rattle.common.specs.Below.{all_below}
use Rattle.grammar.specs.Check.{names_argument, is_group, same_production}
use Rattle.grammar.specs.Formed.{WellFormed}
use Rattle.grammar.specs.Turned.{SameEnds, SameRanges}
use Rattle.layout.proofs.LayoutLaws.{production_first, class_first, declaration_first, production_within, production_after, class_within, class_after_productions, declaration_after_classes, needed_is_end}
use Rattle.layout.specs.Framed.{Framed}
use Rattle.layout.specs.Layout.{byte_at, sorts, productions, classes, declarations, start_sort, argument_count_at, range_count_at, argument_count, range_count, bodies_at, production_at, argument_at, result_sort, argument, class_at, range_at, low, high, declaration_at, kind, first, second, needed_length}
use Rattle.layout.specs.Limits.{kind_limit, class_base, header_length}

-- The numbers before the classes are the same, but for the count of declarations, and each range has the same ends.
pub record SameFront (b c : List ℕ) : Type 0 where
  pub before : (at : ℕ) → at < class_at b 0 → (at ≡ 3 → ⊥) → byte_at c at ≡ byte_at b at
  pub ranges : SameRanges b c

-- the classes begin behind the contents
pub front_classes : (b : List ℕ) → bodies_at b ≤ class_at b 0
front_classes b = omega (arith, production_first b, production_after b (productions b), class_first b)

-- and so do the declarations
pub front_bodies : (b : List ℕ) → bodies_at b ≤ declaration_at b 0
front_bodies b = omega (arith, front_classes b, class_after_productions b (classes b), declaration_first b)

-- a byte of a range stands among those of the classes
range_bounds : (b : List ℕ) (k i : ℕ) → k < classes b → i < 2 * range_count b k → (class_at b 0 ≤ class_at b k + i) × (class_at b k + i < declaration_at b 0)
range_bounds b k i l m =
    let within = class_within b k l in
    let after = class_after_productions b k in
    (omega arith, omega arith)

-- grammars with the same numbers before the declarations, but for their count
pub bytes_front : (b c : List ℕ) → ((at : ℕ) → at < declaration_at b 0 → (at ≡ 3 → ⊥) → byte_at c at ≡ byte_at b at) → SameFront b c
unfolding low high
bytes_front b c same =
    record {
      before = λ at l h. same at (omega (arith, class_after_productions b (classes b), declaration_first b)) h;
      ranges = λ k r l m.
          let (from, first) = range_bounds b k (2 * r) l (omega arith) in
          let (next, second) = range_bounds b k (2 * r + 1) l (omega arith) in
          inl (same (range_at b k r) first (λ e. omega (arith, front_classes b)), same (range_at b k r + 1) (omega arith) (λ e. omega (arith, front_classes b)));
    }

-- ---- the ends of a range

-- each pair of ends is the other so
ends_back : (low high low' high' : ℕ) → SameEnds low high low' high' → SameEnds low' high' low high
ends_back low high low' high' = ⊎_elim (λ (e, f). inl (sym e, sym f)) (λ (e, f). inr (sym f, sym e))

-- the same ends have the same characters between them
ends_span : (low high low' high' x : ℕ) → SameEnds low high low' high' → spans low' high' x ≡ spans low high x
ends_span low high low' high' x =
    ⊎_elim (λ (e, f). ap₂ (λ (s t : ℕ). spans s t x) e f) (λ (e, f). ap₂ (λ (s t : ℕ). spans s t x) e f ∙ spans_turned high low x)

module _ (b c : List ℕ) (same : SameFront b c) where
  -- ---- the header

  -- a number of the header or of the counts, but for the count of declarations
  same_early : (k : ℕ) → k < bodies_at b → (k ≡ 3 → ⊥) → byte_at c k ≡ byte_at b k
  same_early k l h = same.before k (omega (arith, front_classes b)) h

  -- how many sorts
  pub same_sorts : sorts c ≡ sorts b
  same_sorts = same_early 0 (omega arith) (λ e. omega arith)

  -- how many productions
  pub same_productions : productions c ≡ productions b
  same_productions = same_early 1 (omega arith) (λ e. omega arith)

  -- how many classes
  pub same_classes : classes c ≡ classes b
  same_classes = same_early 2 (omega arith) (λ e. omega arith)

  -- the start sort
  pub same_start : start_sort c ≡ start_sort b
  same_start = same_early 4 (omega arith) (λ e. omega arith)

  -- the last byte of the header
  pub same_last : byte_at c 5 ≡ byte_at b 5
  same_last = same_early 5 (omega arith) (λ e. omega arith)

  -- ---- the counts, and where each part stands

  -- how many arguments a production has
  pub same_count : (p : ℕ) → p < productions b → argument_count c p ≡ argument_count b p
  unfolding argument_count
  same_count p l = same_early (argument_count_at b p) (omega arith) (λ e. omega arith)

  -- how many ranges a class has
  pub same_range_count : (k : ℕ) → k < classes b → range_count c k ≡ range_count b k
  unfolding range_count
  same_range_count k l =
      ap (λ (n : ℕ). byte_at c (header_length + n + k)) same_productions ∙ same_early (range_count_at b k) (omega arith) (λ e. omega arith)

  -- where a production stands
  pub same_production_at : (p : ℕ) → p ≤ productions b → production_at c p ≡ production_at b p
  unfolding production_at
  same_production_at p l =
      omega (arith, same_productions, same_classes, sum_same (λ q. 1 + argument_count c q) (λ q. 1 + argument_count b q) p (λ q m. ap (λ (n : ℕ). 1 + n) (same_count q (omega arith))))

  -- where the productions end
  same_bodies_end : production_at c (productions c) ≡ production_at b (productions b)
  same_bodies_end = ap (production_at c) same_productions ∙ same_production_at (productions b) (omega arith)

  -- where a class stands
  pub same_class_at : (k : ℕ) → k ≤ classes b → class_at c k ≡ class_at b k
  unfolding class_at
  same_class_at k l =
      ap₂ ◌+◌ same_bodies_end (sum_same (λ j. 2 * range_count c j) (λ j. 2 * range_count b j) k (λ j m. ap (λ (n : ℕ). 2 * n) (same_range_count j (omega arith))))

  -- where a declaration would stand
  pub same_declaration_at : (d : ℕ) → declaration_at c d ≡ declaration_at b d
  unfolding declaration_at
  same_declaration_at d = ap (λ (n : ℕ). n + 3 * d) (ap (class_at c) same_classes ∙ same_class_at (classes b) (omega arith))

  -- ---- the bodies

  -- a number of a production
  same_body : (p i j : ℕ) → p < productions b → i ≤ argument_count b p → j ≡ production_at b p + i → byte_at c j ≡ byte_at b (production_at b p + i)
  same_body p i j l m e =
      let after = production_after b p in
      let start = production_first b in
      ap (byte_at c) e ∙ same.before (production_at b p + i) (omega (arith, production_within b p l)) (λ o. omega arith)

  -- a production's result
  pub same_result : (p : ℕ) → p < productions b → result_sort c p ≡ result_sort b p
  unfolding result_sort
  same_result p l = rw add-zero at (same_body p 0 (production_at c p) l (omega arith) (omega (arith, same_production_at p (omega arith))))

  -- a production's argument
  pub same_argument_lem : (p i : ℕ) → p < productions b → i < argument_count b p → argument c p i ≡ argument b p i
  unfolding argument
  same_argument_lem p i l m =
      let e : production_at b p + (1 + i) ≡ argument_at b p i = omega arith in
      same_body p (1 + i) (argument_at c p i) l (omega arith) (omega (arith, same_production_at p (omega arith))) ∙ ap (byte_at b) e

  -- where a range stands
  pub same_range_at : (k r : ℕ) → k < classes b → range_at c k r ≡ range_at b k r
  same_range_at k r l = ap (λ (n : ℕ). n + 2 * r) (same_class_at k (omega arith))

  -- the ends of a range
  pub same_ends : (k r : ℕ) → k < classes b → r < range_count b k → SameEnds (low b k r) (high b k r) (low c k r) (high c k r)
  unfolding low high
  same_ends k r l m = subst (λ (at : ℕ). SameEnds (low b k r) (high b k r) (byte_at c at) (byte_at c (at + 1))) (sym (same_range_at k r l)) (same.ranges k r l m)

  -- ---- what is said of them

  -- which bytes are classes
  pub same_is_class : (x : ℕ) → is_class c x ≡ is_class b x
  unfolding is_class
  same_is_class x = ap (λ (n : ℕ). leb class_base x && ltb x (class_base + n)) same_classes

  -- the characters of a class
  pub same_class_has : (k x : ℕ) → k < classes b → class_has c k x ≡ class_has b k x
  unfolding class_has
  same_class_has k x l =
      rw (same_range_count k l)
      (any_same (λ r. spans (low c k r) (high c k r) x) (λ r. spans (low b k r) (high b k r) x) (range_count b k)
      (λ r m. ends_span (low b k r) (high b k r) (low c k r) (high c k r) x (same_ends k r l m)))

  -- which bytes name something
  pub same_names : (x : ℕ) → names_argument c x ≡ names_argument b x
  unfolding names_argument
  same_names x = ap₂ (λ (n : ℕ) (v : Bool). ltb x n || v) same_sorts (same_is_class x)

  -- which classes are one set
  same_class_sets : (j k : ℕ) → j < classes b → k < classes b → same_class c j k ≡ same_class b j k
  unfolding same_class same_set
  same_class_sets j k l m = all_same _ _ characters (λ x n. ap₂ beq (same_class_has j x l) (same_class_has k x m))

  -- which arguments are the same
  same_arguments : (x y : ℕ) → same_argument c x y ≡ same_argument b x y
  unfolding same_argument
  same_arguments x y =
      let classed = is_class b x && is_class b y in
      rw (same_is_class x, same_is_class y)
      (ap (λ (v : Bool). eqb x y || v)
      (and_same classed (same_class c (x - class_base) (y - class_base)) (same_class b (x - class_base) (y - class_base))
      (λ e. same_class_sets (x - class_base) (y - class_base) (class_there b x (and_first_true (is_class b x) (is_class b y) e)) (class_there b y (and_second_true (is_class b x) (is_class b y) e)))))

  -- which productions are equal
  pub same_sameness : (p q : ℕ) → p < productions b → q < productions b → same_production c p q ≡ same_production b p q
  unfolding same_production
  same_sameness p q l m =
      let n = argument_count b p in
      let o = argument_count b q in
      let test = eqb (result_sort b p) (result_sort b q) && eqb n o in
      let own : ℕ → Bool = λ i. same_argument b (argument b p i) (argument b q i) in
      let other : ℕ → Bool = λ i. same_argument c (argument c p i) (argument c q i) in
      rw (same_result p l, same_result q m, same_count p l, same_count q m)
      (and_same test (all_below n other) (all_below n own)
      (λ e. all_same other own n
      (λ i k. same_arguments (argument c p i) (argument c q i) ∙ ap₂ (same_argument b) (same_argument_lem p i l k) (same_argument_lem q i m (omega (arith, eqb-true n o (and_second_true (eqb (result_sort b p) (result_sort b q)) (eqb n o) e)))))))

  -- ---- what stands of the one stands of the other

  -- each differs from the other so
  pub front_back : SameFront c b
  unfolding low high
  front_back =
      record {
        before = λ at l h. sym (same.before at (omega (arith, same_class_at 0 (omega arith))) h);
        ranges = λ k r l m.
            let n : k < classes b = omega (arith, same_classes) in
            let o : r < range_count b k = omega (arith, same_range_count k n) in
            subst (λ (at : ℕ). SameEnds (low c k r) (high c k r) (byte_at b at) (byte_at b (at + 1))) (sym (same_range_at k r n)) (ends_back (low b k r) (high b k r) (low c k r) (high c k r) (same_ends k r n o));
      }

  -- the frame, if the length is the one called for
  pub front_framed : Framed b → length c ≡ needed_length c → Framed c
  front_framed f e =
      record {
        header = omega (arith, needed_is_end c, declaration_after_classes c (declarations c), front_bodies c);
        some_sort = omega (arith, f.some_sort, same_sorts);
        few_sorts = omega (arith, f.few_sorts, same_sorts);
        some_production = omega (arith, f.some_production, same_productions);
        few_productions = omega (arith, f.few_productions, same_productions);
        few_classes = omega (arith, f.few_classes, same_classes);
        start_named = omega (arith, f.start_named, same_start, same_sorts);
        last_zero = same_last ∙ f.last_zero;
        few_arguments = λ p l. let m : p < productions b = omega (arith, same_productions) in omega (arith, same_count p m, f.few_arguments p m);
        few_ranges = λ k l. let m : k < classes b = omega (arith, same_classes) in omega (arith, same_range_count k m, f.few_ranges k m);
        length_is = e;
      }

-- A declaration of a grammar of so many productions: its numbers are as they should be.
pub record Declares (count kind first second : ℕ) : Type 0 where
  pub some_kind : 1 ≤ kind
  pub few_kinds : kind ≤ kind_limit
  pub first_there : first < count
  pub second_there : second < count
  pub group_rises : is_group kind ≡ true → first ≤ second

-- all bytes, if the declarations are as they should be
pub front_formed : (b c : List ℕ) → SameFront b c → WellFormed b → length c ≡ needed_length c
    → ((d : ℕ) → d < declarations c → Declares (productions b) (kind c d) (first c d) (second c d)) → WellFormed c
front_formed b c same w e declares =
    let there : (p : ℕ) → p < productions c → p < productions b = λ p l. omega (arith, same_productions b c same) in
    record {
      framed = front_framed b c same w.framed e;
      result_named = λ p l. let m = there p l in omega (arith, same_result b c same p m, w.result_named p m, same_sorts b c same);
      argument_named = λ p i l o.
          let m = there p l in
          let n : i < argument_count b p = omega (arith, same_count b c same p m) in
          same_names b c same (argument c p i) ∙ ap (names_argument b) (same_argument_lem b c same p i m n) ∙ w.argument_named p i m n;
      some_kind = λ d l. (declares d l).some_kind;
      few_kinds = λ d l. (declares d l).few_kinds;
      first_there = λ d l. omega (arith, (declares d l).first_there, same_productions b c same);
      second_there = λ d l. omega (arith, (declares d l).second_there, same_productions b c same);
      groups_rise = λ d l. (declares d l).group_rises;
      different = λ p q l o. let m = there p l in same_sameness b c same p q m (omega arith) ∙ w.different p q m o;
    }
