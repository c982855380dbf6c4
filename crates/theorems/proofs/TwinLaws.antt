-- Equal productions (02, [5]): the same trees stand under each; and the check beside the former one, by which productions were equal if their bytes were.
use Prim.Native.Nat.{ℕ, zero, suc, ◌-◌, ◌≤◌, ◌<◌}
use mathlib.Core.Path.{◌≡◌, refl, sym, ◌∙◌, ap, subst}
use mathlib.Core.Bool.{Bool, false, true, ◌&&◌}
use mathlib.Core.List.{List, [], ◌∷◌}
use mathlib.Core.Logic.{◌⊎◌, inl, inr, ⊎_elim, by_cases}
use native.Mathlib.Omega.{arith}
use native.Mathlib.Decide.{dec_lt}
use lib.Dec.{eqb, ltb}
use lib.ListN.{get_or}
use borrow.Author.Tests.{eqb-true, eq-eqb, lt-ltb}
use Rattle.charset.proofs.SameSetLaws.{same_when, same_set_sym}
use Rattle.charset.specs.Set.{characters}
use Rattle.classes.proofs.ClassesLaws.{class_there, class_character, no_class_below}
use Rattle.classes.specs.Classes.{is_class, class_has, same_class, same_argument}
use Rattle.common.proofs.BelowLaws.{any_same, any_found, any_never, all_here, all_same}
use Rattle.common.proofs.BoolLaws.{or_second, and_first_true, and_second_true, true_or_false, not_both, same_test}
use Rattle.common.specs.Below.{any_below}
use Rattle.flatten.specs.Trees.{Built, Arguments, RootConflict, conflict_at, HasConflictIn}
use Rattle.grammar.proofs.EqualLaws.{argument_exactly, equal_exactly, equal_sym}
use Rattle.refusal.proofs.VerdictLaws.{refuse_accepted, refuse_case, and_first, and_second, accepted_last, first_all, first_pass, first_same, first_of, order_append}
use Rattle.grammar.specs.Check.{short_header, bad_header, short_contents, bad_argument_counts, bad_range_counts, bad_length, bad_productions, bad_declarations, same_production, repeated_production, repeated_productions}
use Rattle.grammar.specs.Equal.{OneArgument}
use Rattle.refusal.specs.Verdict.{Verdict, refusal, refused, refuse_if, and_then, in_order, accepted}
use Rattle.refusal.specs.declared.Fault.TheVariants.{Repeated}
use Rattle.refusal.specs.declared.Refusal.{Refusal}
use Rattle.std.specs.Prelude.{Ok, Err}
use Rattle.layout.specs.Layout.{sorts, productions, classes, argument_count, production_at, result_sort, argument}
use Rattle.layout.specs.Limits.{sort_limit, class_base}
use Rattle.priority.specs.Check.{circles, checked}
use Rattle.priority.specs.Conflict.{Conflict}
use Rattle.priority.specs.Priorities.{declarations_of}
use Rattle.priority.specs.Refusals.{bad_sorts, no_result, Holds, refusal1, refusal1', refusal2, refusal3, refusal4, refusal5, refusal7, refusal8, refusal9, First}
use Rattle.theorems.specs.Theorems.{TwinsAt, former_equal, former_eight, former_checked}
use Rattle.theory.specs.Tree.{Tree, leaf, node, Forest, none, ◌▷◌, Subtree, itself, below}

-- ---- trees under equal productions

module _ (b : List ℕ) (bytes : (k : ℕ) → get_or b k 0 < characters) (named : (p : ℕ) → p < productions b → result_sort b p < sorts b) (few : sorts b ≤ sort_limit) where
  -- a tree at an argument stands at the same argument
  tree_moved : (x y : ℕ) → OneArgument b x y → (t : Tree) → Built b x t → Built b y t
  unfolding Built
  tree_moved x y (inl e) t h = subst (λ (n : ℕ). Built b n t) e h
  tree_moved x y (inr (c, d, same)) (leaf z) h = (d, sym (same z (class_character b bytes (x - class_base) z h.1)) ∙ h.1)
  tree_moved x y (inr (c, d, same)) (node r g) h = not_both (is_class b x) c (no_class_below b x (omega (arith, named r h.0, h.1)))

  trees_moved : (p q : ℕ) (f : Forest) (d : ℕ) → ((i : ℕ) → i < d → OneArgument b (argument b p i) (argument b q i)) → Arguments b p f d → Arguments b q f d
  unfolding Built
  trees_moved p q none zero same h = tt
  trees_moved p q none (suc d) same h = absurd h
  trees_moved p q (f ▷ t) zero same h = absurd h
  trees_moved p q (f ▷ t) (suc d) same h =
      (trees_moved p q f d (λ i l. same i (omega arith)) h.0, tree_moved (argument b p d) (argument b q d) (same d (omega arith)) t h.1)

  twin_tree : (p q : ℕ) → q < productions b → same_production b p q ≡ true → (x : ℕ) (f : Forest) → Built b x (node p f) → Built b x (node q f)
  unfolding Built
  twin_tree p q l e x f h =
      let (r, n, same) = (equal_exactly b p q).0 e in
      (l, sym r ∙ h.1, subst (λ (d : ℕ). Arguments b q f d) n (trees_moved p q f (argument_count b p) same h.2))

-- ---- and those without a conflict, if the priorities don't tell the productions apart

module _ (b : List ℕ) (p q : ℕ) (alike : (i r : ℕ) → Conflict b p i r → Conflict b q i r) (f : Forest) where
  twin_root : RootConflict b (node p f) → RootConflict b (node q f)
  twin_root (conflict_at at c) = conflict_at at (alike _ _ c)

  twin_conflict : HasConflictIn b (declarations_of b) (node p f) → HasConflictIn b (declarations_of b) (node q f)
  twin_conflict h = within h.is_subtree h.root
    where
      within : {s : Tree} → Subtree s (node p f) → RootConflict b s → HasConflictIn b (declarations_of b) (node q f)
      within itself r = record { subtree = node q f; is_subtree = itself; root = twin_root r }
      within {s} (below at sub) r = record { subtree = s; is_subtree = below at sub; root = r }

-- ---- a grammar that 8 refuses

module _ (b : List ℕ) (bytes : (k : ℕ) → get_or b k 0 < characters) where
  -- The results name sorts, and there are no more sorts than may be: else an earlier refusal would stand.
  passed_named : (s : ℕ) → 5 < s → ((r n k : ℕ) → r < s → Holds b r n k → ⊥) → (p : ℕ) → p < productions b → result_sort b p < sorts b
  passed_named s l earlier p there =
      by_cases (dec_lt (result_sort b p) (sorts b)) (λ h. h) (λ n. absurd (earlier 5 5 _ l (refusal5 (no_result p there (omega arith)))))

  passed_few : (s : ℕ) → 5 < s → ((r n k : ℕ) → r < s → Holds b r n k → ⊥) → sorts b ≤ sort_limit
  passed_few s l earlier =
      by_cases (dec_lt sort_limit (sorts b))
      (λ m. absurd (earlier 1 2 0 (omega arith) (refusal2 (bad_sorts (or_second (ltb (sorts b) 1) (ltb sort_limit (sorts b)) (lt-ltb sort_limit (sorts b) m))))))
      (λ n. omega arith)

  twins : {s n place : ℕ} → n ≡ 8 → Holds b s n place → ((r m k : ℕ) → r < s → Holds b r m k → ⊥) → (p : ℕ) × (q : ℕ) × TwinsAt b place p q
  twins e (refusal1 h) earlier = absurd (omega arith)
  twins e (refusal2 h) earlier = absurd (omega arith)
  twins e (refusal1' h) earlier = absurd (omega arith)
  twins e (refusal3 h) earlier = absurd (omega arith)
  twins e (refusal4 h) earlier = absurd (omega arith)
  twins e (refusal5 h) earlier = absurd (omega arith)
  twins e (refusal7 h) earlier = absurd (omega arith)
  twins e (refusal8 {p} h) earlier =
      let q = h.earlier in
      let named = passed_named 6 (omega arith) earlier in
      let few = passed_few 6 (omega arith) earlier in (
        p,
        q,
        record {
          at = refl;
          there = h.there;
          earlier = h.is_earlier;
          equal = h.same;
          trees = λ x f. (twin_tree b bytes named few p q (omega (arith, h.there, h.is_earlier)) h.same x f, twin_tree b bytes named few q p h.there (equal_sym b p q h.same) x f);
          conflict_free = λ alike f. (
            (λ free c. free (twin_conflict b q p (λ i r. (alike i r).1) f c)),
            (λ free c. free (twin_conflict b p q (λ i r. (alike i r).0) f c)),
          );
        },
      )
  twins e (refusal9 h) earlier = absurd (omega arith)

  pub refused_twins : {place : ℕ} → First b 8 place → (p : ℕ) × (q : ℕ) × TwinsAt b place p q
  refused_twins first = twins refl first.holds first.earlier

-- ---- the former check

module _ (b : List ℕ) where
  -- productions with the same bytes are equal
  bytes_equal : (p q : ℕ) → former_equal b p q ≡ true → same_production b p q ≡ true
  bytes_equal p q e =
      let results = eqb (result_sort b p) (result_sort b q) in
      let counts = eqb (argument_count b p) (argument_count b q) in
      let ends = and_first_true (results && counts) _ e in
      (equal_exactly b p q).1 (
        eqb-true (result_sort b p) (result_sort b q) (and_first_true results counts ends),
        eqb-true (argument_count b p) (argument_count b q) (and_second_true results counts ends),
        λ i l. inl (eqb-true (argument b p i) (argument b q i) (all_here _ (argument_count b p) (and_second_true (results && counts) _ e) i l)),
      )

  -- what the former 8 refused is refused by 8
  former_passed : repeated_productions b ≡ accepted → former_eight b ≡ accepted
  unfolding repeated_production
  former_passed e =
      first_pass _ (productions b) (λ p l.
      let never = any_never (same_production b p) p (refuse_accepted _ Repeated _ (first_all (repeated_production b) (productions b) e p l)) in
      let none : any_below p (former_equal b p) ≡ false =
      ⊎_elim
      (λ t. let (q, m, s) = any_found (former_equal b p) p t in not_both (same_production b p q) (bytes_equal p q s) (never q m))
      (λ f. f)
      (true_or_false (any_below p (former_equal b p))) in
      rw none refl)

  -- that is its fault
  eight : {r : Refusal} → repeated_productions b ≡ Err r → r ≡ refusal Repeated r.place
  unfolding repeated_production
  eight e =
      let f = first_of (repeated_production b) (productions b) e in
      let p = f.index in
      refuse_case (λ r. r ≡ refusal Repeated r.place) (any_below p (same_production b p)) Repeated (production_at b p) f.refused (λ t. refl)

  -- the lines of the table before 8
  before8 : List Verdict
  before8 = short_header b ∷ bad_header b ∷ short_contents b ∷ bad_argument_counts b ∷ bad_range_counts b ∷ bad_length b ∷ bad_productions b ∷ bad_declarations b ∷ []

  checked_eight : checked b ≡ and_then (in_order before8) (and_then (repeated_productions b) (circles b))
  unfolding checked before8
  checked_eight = order_append before8 (repeated_productions b ∷ circles b ∷ [])

  former_eight_lem : former_checked b ≡ and_then (in_order before8) (and_then (former_eight b) (circles b))
  unfolding before8
  former_eight_lem = order_append before8 (former_eight b ∷ circles b ∷ [])

  pub still_refused_lem : checked b ≡ accepted → former_checked b ≡ accepted
  still_refused_lem e =
      let whole = sym checked_eight ∙ e in
      let front = and_first (in_order before8) _ whole in
      let back = and_second (in_order before8) _ whole in
      former_eight_lem ∙ rw (front, former_passed (and_first (repeated_productions b) (circles b) back)) (and_second (repeated_productions b) (circles b) back)

  by_eight : (v : Verdict) → repeated_productions b ≡ v → checked b ≡ v → (checked b ≡ accepted) ⊎ ((place : ℕ) × (checked b ≡ refused Repeated place))
  by_eight (Ok _) e h = inl h
  by_eight (Err r) e h = inr (r.place, h ∙ ap Err (eight e))

  pub refused_now_lem : former_checked b ≡ accepted → (checked b ≡ accepted) ⊎ ((place : ℕ) × (checked b ≡ refused Repeated place))
  refused_now_lem e =
      let whole = sym former_eight_lem ∙ e in
      let front = and_first (in_order before8) _ whole in
      let back = and_second (former_eight b) (circles b) (and_second (in_order before8) _ whole) in
      by_eight (repeated_productions b) refl (checked_eight ∙ rw (front, back) (sym (accepted_last (repeated_productions b))))

  -- Where no two classes are the same set, the same argument is the same byte.
  module _ (differ : (j k : ℕ) → j < k → k < classes b → same_class b j k ≡ false) where
    -- one of two classes does not stand before the other and have its characters
    not_before : (x y : ℕ) → is_class b x ≡ true → is_class b y ≡ true → same_class b (x - class_base) (y - class_base) ≡ true → x < y → ⊥
    not_before x y c d same l =
        let from : class_base ≤ x = by_cases (dec_lt x class_base) (λ m. not_both (is_class b x) c (no_class_below b x m)) (λ n. omega arith) in
        not_both (same_class b (x - class_base) (y - class_base)) same (differ (x - class_base) (y - class_base) (omega arith) (class_there b y d))

    one_byte : (x y : ℕ) → same_argument b x y ≡ eqb x y
    unfolding same_class
    one_byte x y =
        let own = class_has b (x - class_base) in
        let other = class_has b (y - class_base) in
        same_test (same_argument b x y) (eqb x y)
        (λ e. ⊎_elim
        (λ f. eq-eqb x y f)
        (λ (c, d, same).
        let sets = same_when own other same in
        by_cases (dec_lt x y)
        (λ l. absurd (not_before x y c d sets l))
        (λ n. by_cases (dec_lt y x) (λ l. absurd (not_before y x d c (same_set_sym own other sets) l)) (λ m. eq-eqb x y (omega arith))))
        ((argument_exactly b x y).0 e))
        (λ e. (argument_exactly b x y).1 (inl (eqb-true x y e)))

    same_bytes : (p q : ℕ) → same_production b p q ≡ former_equal b p q
    unfolding same_production
    same_bytes p q =
        ap (λ (v : Bool). eqb (result_sort b p) (result_sort b q) && eqb (argument_count b p) (argument_count b q) && v)
        (all_same _ _ (argument_count b p) (λ i l. one_byte (argument b p i) (argument b q i)))

    same_eight : repeated_productions b ≡ former_eight b
    unfolding repeated_production
    same_eight = first_same _ _ (productions b) (λ p l. ap (λ (v : Bool). refuse_if v Repeated (production_at b p)) (any_same _ _ p (λ q m. same_bytes p q)))

    pub judged_as_before : checked b ≡ former_checked b
    judged_as_before = checked_eight ∙ ap (λ (v : Verdict). and_then (in_order before8) (and_then v (circles b))) same_eight ∙ sym former_eight_lem
