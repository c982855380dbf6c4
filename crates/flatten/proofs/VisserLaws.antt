-- The character class grammar of a grammar is that of Algorithm 4.1 of 000, but for productions of one argument.
use Prim.Native.Nat.{ℕ, ◌+◌, ◌-◌, ◌≤◌, ◌<◌}
use mathlib.Core.Path.{◌≡◌, refl, sym, ◌∙◌, ap, fun_ext}
use mathlib.Core.Bool.{Bool, false, true, not, ◌&&◌, ◌||◌, and-false, or-false}
use mathlib.Core.List.{List}
use mathlib.Core.Logic.{◌↔◌, ⊎_elim}
use native.Mathlib.Omega.{arith}
use native.Mathlib.Decide.{ℕ_discrete}
use lib.Dec.{eqb}
use lib.ListN.{get_or}
use borrow.Author.Tests.{eqb-true, lt-ltb, le-ltb, le-leb, lt-leb, eq-eqb, ne_eqb}
use Rattle.flatten.proofs.FlatLaws.{is_production_lem, production_there, production_is, flat_of_class, flat_of_sort, flat_no_conflict}
use Rattle.theory.proofs.TreeLaws.{production_of_number}
use Rattle.ccg.specs.Ccg.{Class, Line, no_line, no_class}
use Rattle.flatten.specs.Flat.{is_production, may_stand_in, flat_class, flat_line_in, flat_grammar, flat_grammar_in}
use Rattle.charset.specs.Set.{characters}
use Rattle.classes.proofs.ClassesLaws.{class_character}
use Rattle.classes.specs.Classes.{is_class, class_has}
use Rattle.common.proofs.BoolLaws.{and_first_true, and_second_true, true_or_false, eqb_sym, taken_out}
use Rattle.common.proofs.ListLaws.{get_d_tabulate, tabulate_same}
use Rattle.common.specs.Lists.{tabulate}
use Rattle.grammar.proofs.ArgumentLaws.{sort_no_class}
use Rattle.grammar.specs.Formed.{WellFormed}
use Rattle.layout.specs.Layout.{productions, argument_count, result_sort, argument}
use Rattle.layout.specs.Limits.{class_base}
use Rattle.priority.proofs.ConflictLaws.{fits_result}
use Rattle.priority.proofs.PriorityLaws.{higher_chain}
use Rattle.priority.specs.Conflict.{is_first, is_last, right_or_nonassoc, left_or_nonassoc, anywhere, barred, conflicts_in}
use Rattle.priority.specs.Priorities.{left, right, nonassoc, declared, is_higher, declarations_of}
use Rattle.theory.specs.Tree.{production_number}
use Rattle.flatten.specs.Visser.{
  nums,
  context_free_class,
  in_l,
  in_m,
  in_r,
  without,
  filtered_class,
  visser_line,
  visser_grammar,
  completed_class,
  completed_line,
  completed_grammar,
  SingleHigher,
}

-- ---- tests

-- where two sets have nothing in common, nothing is taken out
kept : (a c : Bool) → (a ≡ true → c ≡ true → ⊥) → (a && not c) ≡ a
kept true true h = absurd (h refl refl)
kept true false h = refl
kept false c h = refl

-- ---- what is barred

module _ (b : List ℕ) (p i n : ℕ) where
  -- the numbers of the productions barred at the first place are L
  barred_left : 2 ≤ argument_count b p → i ≡ 0 → (is_production b n && barred b (declarations_of b) p i (n - production_number 0)) ≡ in_l b p n
  unfolding barred is_first is_last right_or_nonassoc left_or_nonassoc in_l
  barred_left two e =
      let q = n - production_number 0 in
      rw (le-leb 2 (argument_count b p) two, eq-eqb i 0 e, ne_eqb (i + 1) (argument_count b p) (λ h. omega arith))
      (ap (λ (v : Bool). is_production b n && v) (or-false (is_higher b p q || (declared b right p q || declared b nonassoc p q))))

  -- at the last place R
  barred_right : 2 ≤ argument_count b p → (i ≡ 0 → ⊥) → i + 1 ≡ argument_count b p → (is_production b n && barred b (declarations_of b) p i (n - production_number 0)) ≡ in_r b p n
  unfolding barred is_first is_last right_or_nonassoc left_or_nonassoc in_r
  barred_right two e h =
      let q = n - production_number 0 in
      rw (le-leb 2 (argument_count b p) two, ne_eqb i 0 e, eq-eqb (i + 1) (argument_count b p) h)
      (ap (λ (v : Bool). is_production b n && (v || (declared b left p q || declared b nonassoc p q))) (or-false (is_higher b p q)))

  -- between them M
  barred_middle : (i ≡ 0 → ⊥) → (i + 1 ≡ argument_count b p → ⊥) → (is_production b n && barred b (declarations_of b) p i (n - production_number 0)) ≡ in_m b p n
  unfolding barred is_first is_last in_m
  barred_middle e h =
      let top = is_higher b p (n - production_number 0) in
      rw (ne_eqb i 0 e, ne_eqb (i + 1) (argument_count b p) h) (ap (λ (v : Bool). is_production b n && v) (or-false (top || false) ∙ or-false top))

  -- and so at the one place of one
  barred_one : argument_count b p ≡ 1 → (is_production b n && barred b (declarations_of b) p i (n - production_number 0)) ≡ in_m b p n
  unfolding barred is_first is_last in_m
  barred_one one =
      let top = is_higher b p (n - production_number 0) in
      rw (lt-leb 2 (argument_count b p) (omega arith), and-false (eqb i 0), and-false (eqb (i + 1) (argument_count b p)))
      (ap (λ (v : Bool). is_production b n && v) (or-false (top || false) ∙ or-false top))

-- ---- a class without what is barred

module _ (b : List ℕ) (p i n : ℕ) where
  -- the class of Algorithm 3.7 at a class argument
  free_of_class : is_class b (argument b p i) ≡ true → context_free_class b p i n ≡ class_has b (argument b p i - class_base) n
  unfolding context_free_class
  free_of_class e = rw e refl

  -- and at a sort argument
  free_of_sort : is_class b (argument b p i) ≡ false → context_free_class b p i n ≡ nums b (argument b p i) n
  unfolding context_free_class
  free_of_sort e = rw e refl

module _ (b : List ℕ) (w : WellFormed b) (bytes : (k : ℕ) → get_or b k 0 < characters) (p i : ℕ) where
  -- a class argument has no number of a production
  class_apart : (n : ℕ) → class_has b (argument b p i - class_base) n ≡ true → is_production b n ≡ true → ⊥
  class_apart n has e = omega (arith, production_is b n e, class_character b bytes (argument b p i - class_base) n has)

  -- the class of a sort argument is nums without what is barred
  flat_barred : (n : ℕ) → is_class b (argument b p i) ≡ false
      → flat_class b p i n ≡ (nums b (argument b p i) n && not (is_production b n && barred b (declarations_of b) p i (n - production_number 0)))
  unfolding may_stand_in conflicts_in nums
  flat_barred n c =
      let x = argument b p i in
      let q = n - production_number 0 in
      flat_of_sort b p i n c
      ∙ ⊎_elim
      (λ (e : is_production b n ≡ true). rw (e, fits_result b w p i q (production_there b n e), eqb_sym x (result_sort b q)) (taken_out (eqb (result_sort b q) x) (barred b (declarations_of b) p i q)))
      (λ (e : is_production b n ≡ false). rw e refl)
      (true_or_false (is_production b n))

  -- the flat class is the class of Algorithm 3.7 without the set of what is barred
  flat_without : (dd : Class) → ((n : ℕ) → (is_production b n && barred b (declarations_of b) p i (n - production_number 0)) ≡ dd n) → flat_class b p i ≡ without (context_free_class b p i) dd
  unfolding without
  flat_without dd h =
      fun_ext (λ n.
      let is = is_production b n in
      let bars = barred b (declarations_of b) p i (n - production_number 0) in
      let has = class_has b (argument b p i - class_base) n in
      ⊎_elim
      (λ c. flat_of_class b p i n c ∙ sym (rw (free_of_class b p i n c) (kept has (dd n) (λ e out. class_apart n e (and_first_true is bars (h n ∙ out))))))
      (λ c. flat_barred n c ∙ rw (free_of_sort b p i n c, h n) refl)
      (true_or_false (is_class b (argument b p i))))

  -- for two or more arguments that is what (3)(b) leaves
  flat_filtered : 2 ≤ argument_count b p → flat_class b p i ≡ filtered_class b p i
  unfolding filtered_class
  flat_filtered two =
      let more = le-ltb (argument_count b p) 2 two in
      elim (ℕ_discrete i 0) [
        | yes e ↦ flat_without (in_l b p) (λ n. barred_left b p i n two e) ∙ rw (more, eq-eqb i 0 e) refl
        | no e ↦ elim (ℕ_discrete (i + 1) (argument_count b p)) [
          | yes h ↦ flat_without (in_r b p) (λ n. barred_right b p i n two e h) ∙ rw (more, ne_eqb i 0 e, eq-eqb (i + 1) (argument_count b p) h) refl
          | no h ↦ flat_without (in_m b p) (λ n. barred_middle b p i n e h) ∙ rw (more, ne_eqb i 0 e, ne_eqb (i + 1) (argument_count b p) h) refl
        ]
      ]

  -- for any number of arguments it is the completed class
  flat_class_lem : i < argument_count b p → flat_class b p i ≡ completed_class b p i
  unfolding completed_class
  flat_class_lem l =
      elim (ℕ_discrete (argument_count b p) 1) [
        | yes one ↦ flat_without (in_m b p) (λ n. barred_one b p i n one) ∙ rw (eq-eqb (argument_count b p) 1 one) refl
        | no e ↦ flat_filtered (omega arith) ∙ rw (ne_eqb (argument_count b p) 1 e) refl
      ]

  -- a production in the class of Algorithm 3.7 has the argument's sort as its result
  free_result : (n : ℕ) → context_free_class b p i n ≡ true → is_production b n ≡ true → result_sort b (n - production_number 0) ≡ argument b p i
  unfolding nums
  free_result n e is =
      let x = argument b p i in
      let q = n - production_number 0 in
      ⊎_elim
      (λ c. absurd (class_apart n (sym (free_of_class b p i n c) ∙ e) is))
      (λ c. eqb-true (result_sort b q) x (and_second_true (is_production b n) (eqb (result_sort b q) x) (sym (free_of_sort b p i n c) ∙ e)))
      (true_or_false (is_class b x))

-- ---- one argument

-- the production that fits is in the class that (3)(a) leaves alone
single_there : (b : List ℕ) → WellFormed b → (s : SingleHigher b) → filtered_class b s.p 0 (production_number s.q) ≡ true
unfolding filtered_class nums
single_there b w s =
    let x = argument b s.p 0 in
    let fit : result_sort b s.q ≡ x = sym (eqb-true x (result_sort b s.q) (sym (fits_result b w s.p 0 s.q s.q_there) ∙ s.fitting)) in
    let sort = sort_no_class b w x (omega (arith, w.result_named s.q s.q_there)) in
    rw (lt-ltb (argument_count b s.p) 2 (omega (arith, s.single)))
    (free_of_sort b s.p 0 (production_number s.q) sort
    ∙ rw (is_production_lem b s.q s.q_there, production_of_number s.q) (eq-eqb (result_sort b s.q) x fit))

module _ (b : List ℕ) (w : WellFormed b) (bytes : (k : ℕ) → get_or b k 0 < characters) where
  -- a number of M in the class of one argument shows a production that is higher than one that fits it
  single_higher : (p n : ℕ) → p < productions b → argument_count b p ≡ 1 → context_free_class b p 0 n ≡ true → in_m b p n ≡ true → SingleHigher b
  unfolding in_m
  single_higher p n l one e out =
      let q = n - production_number 0 in
      let is = and_first_true (is_production b n) (is_higher b p q) out in
      let there = production_there b n is in
      record {
        p = p;
        q = q;
        p_there = l;
        q_there = there;
        single = one;
        fitting = fits_result b w p 0 q there ∙ eq-eqb (argument b p 0) (result_sort b q) (sym (free_result b w bytes p 0 n e is));
        above = (higher_chain b w p q).0 (and_second_true (is_production b n) (is_higher b p q) out);
      }

  -- where there is none, the completed class is what (3) leaves
  completed_filtered : (SingleHigher b → ⊥) → (p i : ℕ) → p < productions b → i < argument_count b p → completed_class b p i ≡ filtered_class b p i
  unfolding completed_class filtered_class without
  completed_filtered never p i lp li =
      elim (ℕ_discrete (argument_count b p) 1) [
        | yes one ↦
            let e : i ≡ 0 = omega arith in
            rw (eq-eqb (argument_count b p) 1 one, lt-ltb (argument_count b p) 2 (omega arith), e)
            (fun_ext (λ n. kept (context_free_class b p 0 n) (in_m b p n) (λ h out. never (single_higher p n lp one h out))))
        | no e ↦ rw (ne_eqb (argument_count b p) 1 e) refl
      ]

-- ---- lines

-- the line of production p, and the grammar, made of a class for each argument: so all three grammars here are made
abbrev line_of : List ℕ → (ℕ → ℕ → Class) → ℕ → Line
line_of b f p = record { arguments = tabulate (argument_count b p) (f p); result = production_number p }

abbrev lines : List ℕ → (ℕ → ℕ → Class) → List Line
lines b f = tabulate (productions b) (line_of b f)

-- its class at argument i of production p
class_of : (b : List ℕ) (f : ℕ → ℕ → Class) (p i : ℕ) → p < productions b → i < argument_count b p → get_or (get_or (lines b f) p no_line).arguments i no_class ≡ f p i
class_of b f p i lp li =
    ap (λ (k : Line). get_or k.arguments i no_class) (get_d_tabulate (productions b) (line_of b f) p no_line lp) ∙ get_d_tabulate (argument_count b p) (f p) i no_class li

module _ (b : List ℕ) (f g : ℕ → ℕ → Class) where
  -- it is the same if the classes are
  same_lines : ((p i : ℕ) → p < productions b → i < argument_count b p → f p i ≡ g p i) → lines b f ≡ lines b g
  same_lines h =
      tabulate_same (productions b) (line_of b f) (line_of b g) (λ p l. rw (tabulate_same (argument_count b p) (f p) (g p) (λ i. h p i l)) refl)

  -- and only then
  same_classes : lines b f ≡ lines b g → (p i : ℕ) → p < productions b → i < argument_count b p → f p i ≡ g p i
  same_classes e p i lp li =
      sym (class_of b f p i lp li) ∙ ap (λ (k : List Line). get_or (get_or k p no_line).arguments i no_class) e ∙ class_of b g p i lp li

-- ---- Algorithm 4.1

-- The character class grammar is the algorithm's, with M taken out of the class of one argument too.
pub flat_completed : (b : List ℕ) → WellFormed b → ((k : ℕ) → get_or b k 0 < characters) → flat_grammar b ≡ completed_grammar b
unfolding flat_grammar_in flat_line_in completed_grammar completed_line
flat_completed b w bytes = same_lines b (flat_class b) (completed_class b) (λ p i l. flat_class_lem b w bytes p i)

-- It is the algorithm's own just where no production of one argument is higher than one that fits it.
pub flat_visser : (b : List ℕ) → WellFormed b → ((k : ℕ) → get_or b k 0 < characters) → (flat_grammar b ≡ visser_grammar b) ↔ (SingleHigher b → ⊥)
unfolding flat_grammar_in flat_line_in visser_grammar visser_line completed_grammar completed_line
flat_visser b w bytes = (
  λ e s. let same = same_classes b (flat_class b) (filtered_class b) e s.p 0 s.p_there (omega (arith, s.single)) in
      flat_no_conflict b w bytes s.p 0 s.q (ap (λ (cc : Class). cc (production_number s.q)) same ∙ single_there b w s) (anywhere s.fitting s.above),
  λ never. flat_completed b w bytes ∙ same_lines b (completed_class b) (filtered_class b) (completed_filtered b w bytes never),
)
