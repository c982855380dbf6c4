-- The character class grammar that the tables of a grammar hold is the grammar's own.
use Prim.Native.Nat.{ℕ, ◌+◌, ◌-◌, ◌≤◌, ◌<◌}
use mathlib.Core.Bool.{false, true, ◌&&◌, and-false}
use mathlib.Core.List.{List}
use mathlib.Core.Logic.{⊎_elim, by_cases}
use mathlib.Core.Path.{◌≡◌, refl, sym, ◌∙◌, fun_ext}
use native.Mathlib.Decide.{dec_lt}
use native.Mathlib.Omega.{arith}
use lib.Dec.{leb, ltb, eqb}
use lib.ListN.{get_or}
use borrow.Author.Tests.{leb-true, lt-ltb, le-ltb, le-leb, lt-leb}
use Rattle.ccg.proofs.TablesLaws.{table_of_character, table_between, table_of_production, table_above}
use Rattle.ccg.specs.Tables.{table_class, table_line, table_grammar}
use Rattle.ccg.specs.Text.{number_limit}
use Rattle.charset.specs.Set.{characters}
use Rattle.classes.proofs.ClassesLaws.{class_character}
use Rattle.classes.specs.Classes.{is_class, class_has}
use Rattle.common.proofs.BoolLaws.{and_first_true, true_or_false}
use Rattle.common.proofs.ListLaws.{tabulate_same}
use Rattle.flatten.proofs.FlatLaws.{flat_of_class, flat_of_sort}
use Rattle.flatten.specs.Flat.{is_production, may_stand, may_stand_in, flat_class, flat_line, flat_line_in, flat_grammar, flat_grammar_in, plain_class}
use Rattle.flatten.specs.Tables.{FlatTables}
use Rattle.grammar.proofs.ArgumentLaws.{sort_no_class}
use Rattle.grammar.specs.Formed.{WellFormed}
use Rattle.layout.specs.Layout.{sorts, productions, classes, start_sort, argument_count, result_sort, argument}
use Rattle.layout.specs.Limits.{class_base}
use Rattle.priority.specs.Conflict.{is_sort, fits}
use Rattle.tables.specs.Layout.{slot, root_slot}
use Rattle.theory.specs.Tree.{production_number}

-- ---- numbers of productions

module _ (b : List ℕ) (n : ℕ) where
  no_production : n < production_number 0 → is_production b n ≡ false
  unfolding is_production
  no_production l = rw (lt-leb (production_number 0) n l) refl

  is_there_lem : production_number 0 ≤ n → is_production b n ≡ ltb (n - production_number 0) (productions b)
  unfolding is_production
  is_there_lem l =
      rw (le-leb (production_number 0) n l)
      (by_cases (dec_lt n (production_number (productions b)))
      (λ m. lt-ltb n (production_number (productions b)) m ∙ sym (lt-ltb (n - production_number 0) (productions b) (omega arith)))
      (λ m. le-ltb n (production_number (productions b)) (omega arith) ∙ sym (le-ltb (n - production_number 0) (productions b) (omega arith))))

  -- no number is above the productions
  none_above : WellFormed b → number_limit ≤ n → is_production b n ≡ false
  none_above w l = is_there_lem (omega arith) ∙ le-ltb (n - production_number 0) (productions b) (omega (arith, w.framed.few_productions))

-- ---- what the class of an argument has

module _ (b : List ℕ) (w : WellFormed b) (bytes : (k : ℕ) → get_or b k 0 < characters) (p i : ℕ) where
  class_no_production : (n : ℕ) → characters ≤ n → class_has b (argument b p i - class_base) n ≡ false
  class_no_production n l =
      ⊎_elim
      (λ e. absurd (omega (arith, class_character b bytes (argument b p i - class_base) n e)))
      (λ e. e)
      (true_or_false (class_has b (argument b p i - class_base) n))

  -- nothing may stand at an argument that is a class
  class_may_not : (q : ℕ) → is_class b (argument b p i) ≡ true → may_stand b p i q ≡ false
  unfolding is_class may_stand_in fits is_sort
  class_may_not q e =
      let x = argument b p i in
      let above = leb-true class_base x (and_first_true (leb class_base x) (ltb x (class_base + classes b)) e) in
      rw (le-ltb x (sorts b) (omega (arith, w.framed.few_sorts))) refl

  flat_of_character : (n : ℕ) → n < characters → flat_class b p i n ≡ (is_class b (argument b p i) && class_has b (argument b p i - class_base) n)
  flat_of_character n l =
      ⊎_elim
      (λ e. flat_of_class b p i n e ∙ rw e refl)
      (λ e. flat_of_sort b p i n e ∙ rw (e, no_production b n (omega arith)) refl)
      (true_or_false (is_class b (argument b p i)))

  pub flat_of_production : (n : ℕ) → production_number 0 ≤ n → flat_class b p i n ≡ (ltb (n - production_number 0) (productions b) && may_stand b p i (n - production_number 0))
  flat_of_production n l =
      let q = n - production_number 0 in
      ⊎_elim
      (λ e. flat_of_class b p i n e ∙ class_no_production n (omega arith) ∙ sym (rw (class_may_not q e) (and-false (ltb q (productions b)))))
      (λ e. flat_of_sort b p i n e ∙ rw (is_there_lem b n l) refl)
      (true_or_false (is_class b (argument b p i)))

  -- a number that is neither a character nor of a production
  flat_of_none : (n : ℕ) → characters ≤ n → is_production b n ≡ false → flat_class b p i n ≡ false
  flat_of_none n l none =
      ⊎_elim
      (λ e. flat_of_class b p i n e ∙ class_no_production n l)
      (λ e. flat_of_sort b p i n e ∙ rw none refl)
      (true_or_false (is_class b (argument b p i)))

  -- the class of the slot and the class of the argument agree
  pub table_class_lem : p < productions b → i < argument_count b p → (t : List ℕ) → FlatTables b t → (n : ℕ) → table_class t (slot p i) n ≡ flat_class b p i n
  table_class_lem lp li t f n =
      let s = slot p i in
      by_cases (dec_lt n characters)
      (λ l. table_of_character t s n l ∙ f.chars_are p i n lp li l ∙ sym (flat_of_character n l))
      (λ m. by_cases (dec_lt n (production_number 0))
      (λ l. table_between t s n (omega arith) l ∙ sym (flat_of_none n (omega arith) (no_production b n l)))
      (λ m₂. by_cases (dec_lt n number_limit)
      (λ l. table_of_production t s n (omega arith) l ∙ f.productions_are p i (n - production_number 0) lp li (omega arith) ∙ sym (flat_of_production n (omega arith)))
      (λ m₃. table_above t s n (omega arith) ∙ sym (flat_of_none n (omega arith) (none_above b n w (omega arith))))))

-- ---- what the class of the root has

module _ (b : List ℕ) (w : WellFormed b) (bytes : (k : ℕ) → get_or b k 0 < characters) (t : List ℕ) (f : FlatTables b t) where
  plain_of_start : (n : ℕ) → plain_class b (start_sort b) n ≡ (is_production b n && eqb (result_sort b (n - production_number 0)) (start_sort b))
  unfolding plain_class
  plain_of_start n = rw (sort_no_class b w (start_sort b) w.framed.start_named) refl

  -- the numbers of the productions of the start sort
  pub table_root : (n : ℕ) → table_class t root_slot n ≡ plain_class b (start_sort b) n
  table_root n =
      let q = n - production_number 0 in
      rw (plain_of_start n)
      (by_cases (dec_lt n characters)
      (λ l. table_of_character t root_slot n l ∙ f.root_chars n l ∙ sym (rw (no_production b n (omega arith)) refl))
      (λ m. by_cases (dec_lt n (production_number 0))
      (λ l. table_between t root_slot n (omega arith) l ∙ sym (rw (no_production b n l) refl))
      (λ m₂. by_cases (dec_lt n number_limit)
      (λ l. table_of_production t root_slot n (omega arith) l ∙ f.roots_are q (omega arith) ∙ sym (rw (is_there_lem b n (omega arith)) refl))
      (λ m₃. table_above t root_slot n (omega arith) ∙ sym (rw (none_above b n w (omega arith)) refl)))))

-- ---- the whole grammar

module _ (b t : List ℕ) (w : WellFormed b) (bytes : (k : ℕ) → get_or b k 0 < characters) (f : FlatTables b t) where
  table_line_lem : (p : ℕ) → p < productions b → table_line t p ≡ flat_line b p
  unfolding table_line flat_line_in
  table_line_lem p l =
      rw (
        f.counts_are p l,
        tabulate_same (argument_count b p) (λ i. table_class t (slot p i)) (flat_class b p) (λ i m. fun_ext (table_class_lem b w bytes p i l m t f)),
      ) refl

  -- the tables of a grammar hold its character class grammar
  pub table_grammar_lem : table_grammar t ≡ flat_grammar b
  unfolding table_grammar flat_grammar_in
  table_grammar_lem = rw f.count_is (tabulate_same (productions b) (table_line t) (flat_line b) table_line_lem)
