-- The trees of any grammar of the theory that tests what a grammar's bytes test are the trees of those bytes without a conflict.
use Prim.Native.Nat.{ℕ, zero, suc, ◌-◌, ◌≤◌, ◌<◌}
use mathlib.Core.Path.{◌≡◌, refl, sym, ◌∙◌}
use mathlib.Core.Bool.{false, true, not, ◌&&◌}
use mathlib.Core.List.{List}
use mathlib.Core.Logic.{◌↔◌, ⊎_elim}
use native.Mathlib.Omega.{arith}
use lib.Dec.{eqb}
use lib.ListN.{length, get_or}
use lib.Seq.{take-length}
use borrow.Author.Tests.{eqb-true, not-true, eq-eqb}
use Rattle.flatten.proofs.ConflictFreeLaws.{conflict_free_argument, conflict_free_root, conflict_free_leaf, conflict_free_node}
use Rattle.flatten.proofs.FlatLaws.{arguments_size}
use Rattle.theory.proofs.TreeLaws.{at_last, at_none, at_more}
use Rattle.flatten.specs.Flat.{may_stand, may_stand_in}
use Rattle.flatten.specs.Trees.{Built, Arguments, RootConflict, conflict_at, ConflictFree}
use Rattle.charset.specs.Set.{characters}
use Rattle.classes.proofs.ClassesLaws.{class_character}
use Rattle.classes.specs.Classes.{is_class, class_has}
use Rattle.common.proofs.BoolLaws.{and_both, and_first_true, and_second_true, true_or_false, not_both}
use Rattle.grammar.proofs.ArgumentLaws.{sort_no_class}
use Rattle.grammar.specs.Formed.{WellFormed}
use Rattle.layout.specs.Layout.{productions, start_sort, argument_count, result_sort, argument}
use Rattle.layout.specs.Limits.{class_base}
use Rattle.flatten.specs.Reading.{Reading, EntryList}
use Rattle.priority.proofs.ConflictLaws.{fits_result, conflict_test}
use Rattle.priority.specs.Conflict.{fits, Conflict, conflicts}
use Rattle.theory.proofs.SpellsLaws.{spells_yield, derived_spells}
use Rattle.theory.specs.Grammar.{Grammar, Spells, Stands, Derived, DerivedAt, Parse}
use Rattle.theory.specs.Tree.{Tree, leaf, node, Forest, none, ◌▷◌, yield, At, further}

-- ---- lists of trees without a conflict

-- a tree at argument k of production p is in no conflict with it
abbrev Apart : List ℕ → ℕ → ℕ → Tree → Type 0
Apart b p k (leaf c) = Unit {0}
Apart b p k (node q h) = Conflict b p k q → ⊥

-- so are all trees of the list, each at its place, and none of them has a conflict in itself
abbrev AllFree : List ℕ → ℕ → Forest → Type 0
AllFree b p f = (k : ℕ) (t : Tree) → At k f t → ConflictFree b t × Apart b p k t

module _ (b : List ℕ) (p : ℕ) (f : Forest) where
  -- the two halves together
  all_free : ((k : ℕ) (t : Tree) → At k f t → ConflictFree b t) → ((k q : ℕ) (h : Forest) → At k f (node q h) → Conflict b p k q → ⊥) → AllFree b p f
  all_free free apart k (leaf c) at = (free k (leaf c) at, tt)
  all_free free apart k (node q h) at = (free k (node q h) at, apart k q h at)

  -- the arguments of a tree without a conflict
  free_arguments : ConflictFree b (node p f) → AllFree b p f
  free_arguments free = all_free (λ k t at. conflict_free_argument free at) (λ k q h at e. conflict_free_root free (conflict_at at e))

  -- and back: a production over such a list makes a tree without a conflict
  free_root : AllFree b p f → RootConflict b (node p f) → ⊥
  free_root all (conflict_at {i} {q} {g} at e) = (all i (node q g) at).1 e

  free_node : AllFree b p f → ConflictFree b (node p f)
  free_node all = conflict_free_node (free_root all) (λ k t at. (all k t at).0)

-- ---- what may stand as an argument: a production with the right result that isn't in a conflict there

module _ (b : List ℕ) (formed : WellFormed b) (p d q : ℕ) where
  -- it has the right result
  may_result : q < productions b → may_stand b p d q ≡ true → result_sort b q ≡ argument b p d
  unfolding may_stand_in
  may_result l e =
      sym (eqb-true (argument b p d) (result_sort b q) (sym (fits_result b formed p d q l) ∙ and_first_true (fits b p d q) (not (conflicts b p d q)) e))

  -- it is in no conflict
  may_apart : may_stand b p d q ≡ true → Conflict b p d q → ⊥
  unfolding may_stand_in
  may_apart e h =
      not_both (conflicts b p d q) ((conflict_test b formed p d q).1 h) (not-true (conflicts b p d q) (and_second_true (fits b p d q) (not (conflicts b p d q)) e))

  -- and nothing else is asked
  apart_may : q < productions b → result_sort b q ≡ argument b p d → (Conflict b p d q → ⊥) → may_stand b p d q ≡ true
  unfolding may_stand_in
  apart_may l e apart =
      let fit : fits b p d q ≡ true = fits_result b formed p d q l ∙ eq-eqb (argument b p d) (result_sort b q) (sym e) in
      let free : conflicts b p d q ≡ false = ⊎_elim (λ h. absurd (apart ((conflict_test b formed p d q).0 h))) (λ h. h) (true_or_false (conflicts b p d q)) in
      rw (fit, free) refl

-- ---- the grammar g of the theory has the productions and arguments of the bytes b, and what may stand there is what b lets stand

pub record TestsAre (b : List ℕ) (g : Grammar) : Type 0 where
  pub count_is : g.count ≡ productions b
  pub arity_is : (p : ℕ) → p < productions b → g.arity p ≡ argument_count b p
  -- characters at a class that has them
  pub chars_are : (p d c : ℕ) → p < productions b → d < argument_count b p → c < characters
      → g.chars p d c ≡ (is_class b (argument b p d) && class_has b (argument b p d - class_base) c)
  -- productions with the right result, unless they conflict there
  pub subs_are : (p d q : ℕ) → p < productions b → d < argument_count b p → q < productions b → g.subs p d q ≡ may_stand b p d q

module _ (b : List ℕ) (formed : WellFormed b) (bytes : (k : ℕ) → get_or b k 0 < characters) (g : Grammar) (tests : TestsAre b g) where
  -- ---- trees of b without a conflict are trees of g

  mutual
    unfolding Built Derived

    -- the trees of the first d arguments
    arguments_derived : (f : Forest) (p d : ℕ) → p < productions b → d ≤ argument_count b p → Arguments b p f d → AllFree b p f
        → Derived g p f d
    arguments_derived none p zero lp ld h all = tt
    arguments_derived none p (suc d) lp ld h all = absurd h
    arguments_derived (f ▷ t) p zero lp ld h all = absurd h
    arguments_derived (f ▷ t) p (suc d) lp ld h all =
        let standing = all d t (at_last (arguments_size b p f d h.0)) in
        (arguments_derived f p d lp (omega arith) h.0 (λ k s at. all k s (further at)), built_derived t p d lp ld h.1 standing.0 standing.1)

    -- the tree of argument d
    built_derived : (t : Tree) (p d : ℕ) → p < productions b → d < argument_count b p → Built b (argument b p d) t → ConflictFree b t → Apart b p d t
        → DerivedAt g p d t
    built_derived (leaf c) p d lp ld h free apart =
        tests.chars_are p d c lp ld (class_character b bytes (argument b p d - class_base) c h.1)
        ∙ and_both (is_class b (argument b p d)) (class_has b (argument b p d - class_base) c) h.0 h.1
    built_derived (node q f) p d lp ld h free apart = (
      omega (arith, tests.count_is, h.0),
      tests.subs_are p d q lp ld h.0 ∙ apart_may b formed p d q h.0 h.1 apart,
      rw (tests.arity_is q h.0) (arguments_derived f q (argument_count b q) h.0 (omega arith) h.2 (free_arguments b q f free)),
    )

  module _ (w : List ℕ) (text : (k : ℕ) → get_or w k 0 < characters) where
    -- ---- trees of g that spell a part of the text are trees of b without a conflict

    mutual
      unfolding Built Spells

      -- the trees of the first d arguments
      spells_arguments : (f : Forest) (p d i j : ℕ) → p < productions b → d ≤ argument_count b p → Spells g w p f d i j
          → Arguments b p f d × AllFree b p f
      spells_arguments none p zero i j lp ld s = (tt, λ k t at. absurd (at_none at))
      spells_arguments none p (suc d) i j lp ld s = absurd s
      spells_arguments (f ▷ t) p zero i j lp ld s = absurd s
      spells_arguments (f ▷ t) p (suc d) i j lp ld s =
          let (arguments, all) = spells_arguments f p d i s.0 lp (omega arith) s.1 in
          let (built, free, apart) = stands_built t p d s.0 j lp ld s.2 in
          ((arguments, built), at_more (λ k r. ConflictFree b r × Apart b p k r) all (free, rw (arguments_size b p f d arguments) apart))

      -- the tree of argument d; a character of it is one of the text, so a byte
      stands_built : (t : Tree) (p d m j : ℕ) → p < productions b → d < argument_count b p → Stands g w p d t m j
          → Built b (argument b p d) t × ConflictFree b t × Apart b p d t
      stands_built (leaf c) p d m j lp ld s =
          let e = sym (tests.chars_are p d c lp ld (omega (arith, text m, s.2))) ∙ s.3 in
          let x = argument b p d in
          ((and_first_true (is_class b x) (class_has b (x - class_base) c) e, and_second_true (is_class b x) (class_has b (x - class_base) c) e), conflict_free_leaf, tt)
      stands_built (node q f) p d m j lp ld s =
          let lq : q < productions b = omega (arith, tests.count_is, s.0) in
          let may : may_stand b p d q ≡ true = sym (tests.subs_are p d q lp ld lq) ∙ s.1 in
          let (arguments, all) = spells_arguments f q (argument_count b q) m j lq (omega arith) (rw (tests.arity_is q lq) at s.2) in
          ((lq, may_result b formed p d q lq may, arguments), free_node b q f all, may_apart b formed p d q may)

    -- ---- the lists of an entry, and the parses

    -- what an entry of the chart counts
    pub tests_lists : (p d i j : ℕ) → p < productions b → d ≤ argument_count b p → i ≤ j → j ≤ length w → (f : Forest)
        → Spells g w p f d i j ↔ EntryList b w p d i j f
    tests_lists p d i j lp ld lij lj f = (
      λ s. let (arguments, all) = spells_arguments f p d i j lp ld s in
          record {
            built = arguments;
            free = λ k t at. (all k t at).0;
            apart = λ k q h at. (all k (node q h) at).1;
            spells = spells_yield g w p f d i j s;
          },
      λ e. derived_spells g w p f d i j
          (arguments_derived f p d lp ld e.built (all_free b p f e.free e.apart)) lij lj e.spells,
    )

    -- no character is a parse: the start sort is no class
    leaf_no_reading : (c : ℕ) → Reading b w (leaf c) → ⊥
    unfolding Built
    leaf_no_reading c r = not_both (is_class b (start_sort b)) r.built.0 (sort_no_class b formed (start_sort b) formed.framed.start_named)

    -- a parse is a reading: its trees spell the whole text, so they are those of b
    parse_reading : (p : ℕ) (f : Forest) → Parse g (λ q. eqb (result_sort b q) (start_sort b)) w (node p f) → Reading b w (node p f)
    unfolding Parse Built yield
    parse_reading p f h =
        let lp : p < productions b = omega (arith, tests.count_is, h.0) in
        let s = derived_spells g w p f (argument_count b p) 0 (length w) (rw (tests.arity_is p lp) at h.2) (omega arith) (omega arith) (h.3 ∙ sym (take-length w)) in
        let (arguments, all) = spells_arguments f p (argument_count b p) 0 (length w) lp (omega arith) s in
        record {
          built = (lp, eqb-true (result_sort b p) (start_sort b) h.1, arguments);
          free = free_node b p f all;
          spells = h.3;
        }

    -- and a reading is a parse
    reading_parse : (p : ℕ) (f : Forest) → Reading b w (node p f) → Parse g (λ q. eqb (result_sort b q) (start_sort b)) w (node p f)
    unfolding Parse Built yield
    reading_parse p f r =
        let (lp, start, arguments) = r.built in (
          omega (arith, tests.count_is),
          eq-eqb (result_sort b p) (start_sort b) start,
          rw (tests.arity_is p lp) (arguments_derived f p (argument_count b p) lp (omega arith) arguments (free_arguments b p f r.free)),
          r.spells,
        )

    -- the parses
    pub tests_parses : (t : Tree) → Parse g (λ p. eqb (result_sort b p) (start_sort b)) w t ↔ Reading b w t
    unfolding Parse
    tests_parses (leaf c) = (λ h. absurd h, λ r. absurd (leaf_no_reading c r))
    tests_parses (node p f) = (parse_reading p f, reading_parse p f)
