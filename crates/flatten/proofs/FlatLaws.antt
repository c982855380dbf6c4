-- The trees of the character class grammar of a grammar are the grammar's trees without a conflict.
use Prim.Native.Nat.{ℕ, zero, suc, ◌-◌, ◌≤◌, ◌<◌}
use mathlib.Core.Bool.{false, true, not, ◌&&◌}
use mathlib.Core.List.{List}
use mathlib.Core.Logic.{◌↔◌, ⊎_elim}
use mathlib.Core.Path.{◌≡◌, refl, sym, ◌∙◌, ap, transport}
use native.Mathlib.Omega.{arith}
use lib.Dec.{leb, ltb, eqb}
use lib.ListN.{length, get_or}
use borrow.Author.Tests.{ltb-true, leb-true, eqb-true, not-true, lt-ltb, le-leb, eq-eqb}
use Rattle.ccg.proofs.CcgLaws.{root_number, generated_class, generated_root}
use Rattle.ccg.proofs.TerminalLaws.{production_no_terminal, other_terminal}
use Rattle.ccg.specs.Ccg.{Line, no_line, no_class, is_terminal, OwnNumbers, Generated, Each}
use Rattle.charset.specs.Set.{characters}
use Rattle.classes.proofs.ClassesLaws.{class_character}
use Rattle.classes.specs.Classes.{is_class, class_has}
use Rattle.common.proofs.BoolLaws.{and_both, and_first_true, and_second_true, true_or_false, not_both}
use Rattle.common.proofs.ListLaws.{length_tabulate, get_d_tabulate}
use Rattle.common.specs.Lists.{tabulate}
use Rattle.flatten.proofs.ConflictFreeLaws.{conflict_free_argument, conflict_free_root, conflict_free_leaf, conflict_free_node}
use Rattle.flatten.specs.Flat.{is_production, may_stand, may_stand_in, flat_class, flat_class_in, flat_line, flat_line_in, flat_grammar, flat_grammar_in, plain_class}
use Rattle.flatten.specs.Trees.{Built, Arguments, RootConflict, conflict_at, ConflictFree}
use Rattle.grammar.proofs.ArgumentLaws.{sort_no_class}
use Rattle.grammar.specs.Formed.{WellFormed}
use Rattle.layout.specs.Layout.{productions, argument_count, result_sort, argument}
use Rattle.layout.specs.Limits.{class_base}
use Rattle.priority.proofs.ConflictLaws.{fits_result, conflict_test}
use Rattle.priority.specs.Conflict.{fits, Conflict, conflicts}
use Rattle.theory.proofs.TreeLaws.{production_of_number, at_last, at_none, at_more}
use Rattle.theory.specs.Tree.{Tree, leaf, node, Forest, none, ◌▷◌, production_number, size, At, further}

-- ---- lines

pub flat_length : (b : List ℕ) → length (flat_grammar b) ≡ productions b
unfolding flat_grammar_in
flat_length b = length_tabulate (productions b) (flat_line b)

module _ (b : List ℕ) (p : ℕ) (l : p < productions b) where
  pub flat_line_lem : get_or (flat_grammar b) p no_line ≡ flat_line b p
  unfolding flat_grammar_in
  flat_line_lem = get_d_tabulate (productions b) (flat_line b) p no_line l

  pub flat_result : (get_or (flat_grammar b) p no_line).result ≡ production_number p
  unfolding flat_line_in
  flat_result = ap (λ (k : Line). k.result) flat_line_lem

  pub flat_arguments : (get_or (flat_grammar b) p no_line).arguments ≡ tabulate (argument_count b p) (flat_class b p)
  unfolding flat_line_in
  flat_arguments = ap (λ (k : Line). k.arguments) flat_line_lem

  -- a tree for each argument of the line
  each_flat : (f : Forest)
      → Each (flat_grammar b) (get_or (flat_grammar b) p no_line).arguments f (length (get_or (flat_grammar b) p no_line).arguments)
      ≡ Each (flat_grammar b) (tabulate (argument_count b p) (flat_class b p)) f (argument_count b p)
  each_flat f = rw (flat_arguments, length_tabulate (argument_count b p) (flat_class b p)) refl

pub flat_class_at : (b : List ℕ) (p i : ℕ) → i < argument_count b p → get_or (tabulate (argument_count b p) (flat_class b p)) i no_class ≡ flat_class b p i
flat_class_at b p i l = get_d_tabulate (argument_count b p) (flat_class b p) i no_class l

pub flat_numbered : (b : List ℕ) → OwnNumbers (flat_grammar b)
flat_numbered b = record { own = λ p l. flat_result b p (omega (arith, flat_length b)) }

-- the numbers of the productions are no terminals, characters are
production_result : (b : List ℕ) (q : ℕ) → q < productions b → is_terminal (flat_grammar b) (production_number q) ≡ false
production_result b q l = production_no_terminal (flat_grammar b) (flat_numbered b) q (omega (arith, flat_length b))

character_terminal : (b : List ℕ) (n : ℕ) → n < production_number 0 → is_terminal (flat_grammar b) n ≡ true
character_terminal b n l = other_terminal (flat_grammar b) (flat_numbered b) n (λ m h. omega arith)

-- ---- numbers of productions, and characters

pub is_production_lem : (b : List ℕ) (q : ℕ) → q < productions b → is_production b (production_number q) ≡ true
unfolding is_production
is_production_lem b q l =
    and_both (leb (production_number 0) (production_number q)) (ltb (production_number q) (production_number (productions b)))
    (le-leb (production_number 0) (production_number q) (omega arith)) (lt-ltb (production_number q) (production_number (productions b)) (omega arith))

-- the production whose number n is
module _ (b : List ℕ) (n : ℕ) (e : is_production b n ≡ true) where
  pub production_there : n - production_number 0 < productions b
  unfolding is_production
  production_there =
      omega (
        arith,
        leb-true (production_number 0) n (and_first_true (leb (production_number 0) n) (ltb n (production_number (productions b))) e),
        ltb-true n (production_number (productions b)) (and_second_true (leb (production_number 0) n) (ltb n (production_number (productions b))) e),
      )

  pub production_is : n ≡ production_number (n - production_number 0)
  unfolding is_production
  production_is = omega (arith, leb-true (production_number 0) n (and_first_true (leb (production_number 0) n) (ltb n (production_number (productions b))) e))

-- ---- what a class has

module _ (b : List ℕ) (x n : ℕ) where
  plain_of_class : is_class b x ≡ true → plain_class b x n ≡ class_has b (x - class_base) n
  unfolding plain_class
  plain_of_class e = rw e refl

  plain_of_sort : is_class b x ≡ false → plain_class b x n ≡ (is_production b n && eqb (result_sort b (n - production_number 0)) x)
  unfolding plain_class
  plain_of_sort e = rw e refl

module _ (b : List ℕ) (p i n : ℕ) where
  pub flat_of_class : is_class b (argument b p i) ≡ true → flat_class b p i n ≡ class_has b (argument b p i - class_base) n
  unfolding flat_class_in
  flat_of_class e = rw e refl

  pub flat_of_sort : is_class b (argument b p i) ≡ false → flat_class b p i n ≡ (is_production b n && may_stand b p i (n - production_number 0))
  unfolding flat_class_in
  flat_of_sort e = rw e refl

module _ (b : List ℕ) (w : WellFormed b) where
  -- the class of an argument has only what may stand there if conflicts are let through
  pub flat_plain : (p i n : ℕ) → flat_class b p i n ≡ true → plain_class b (argument b p i) n ≡ true
  unfolding may_stand_in
  flat_plain p i n e =
      let x = argument b p i in
      let q = n - production_number 0 in
      ⊎_elim
      (λ c. plain_of_class b x n c ∙ sym (flat_of_class b p i n c) ∙ e)
      (λ c. let h = sym (flat_of_sort b p i n c) ∙ e in
      let number = and_first_true (is_production b n) (may_stand b p i q) h in
      let fit = and_first_true (fits b p i q) (not (conflicts b p i q)) (and_second_true (is_production b n) (may_stand b p i q) h) in
      let same = eqb-true x (result_sort b q) (sym (fits_result b w p i q (production_there b n number)) ∙ fit) in
      plain_of_sort b x n c ∙ and_both (is_production b n) (eqb (result_sort b q) x) number (eq-eqb (result_sort b q) x (sym same)))
      (true_or_false (is_class b x))

  -- a production with the right result that doesn't conflict is in the argument's class
  pub flat_production : (p i q : ℕ) → q < productions b → result_sort b q ≡ argument b p i → conflicts b p i q ≡ false → flat_class b p i (production_number q) ≡ true
  unfolding may_stand_in
  flat_production p i q l e free =
      let fit : fits b p i q ≡ true = fits_result b w p i q l ∙ eq-eqb (argument b p i) (result_sort b q) (sym e) in
      flat_of_sort b p i (production_number q) (sort_no_class b w (argument b p i) (omega (arith, w.result_named q l)))
      ∙ and_both (is_production b (production_number q)) (may_stand b p i (production_number q - production_number 0)) (is_production_lem b q l)
      (rw (production_of_number q, fit, free) refl)

  pub plain_production : (x q : ℕ) → q < productions b → result_sort b q ≡ x → plain_class b x (production_number q) ≡ true
  plain_production x q l e =
      plain_of_sort b x (production_number q) (sort_no_class b w x (omega (arith, w.result_named q l)))
      ∙ and_both (is_production b (production_number q)) (eqb (result_sort b (production_number q - production_number 0)) x) (is_production_lem b q l)
      (rw (production_of_number q) (eq-eqb (result_sort b q) x e))

  module _ (bytes : (k : ℕ) → get_or b k 0 < characters) where
    -- a class has no number of a production
    number_no_class : (x q : ℕ) → (is_class b x ≡ true → class_has b (x - class_base) (production_number q) ≡ true) → is_class b x ≡ false
    number_no_class x q h =
        ⊎_elim
        (λ c. absurd (omega (arith, class_character b bytes (x - class_base) (production_number q) (h c))))
        (λ c. c)
        (true_or_false (is_class b x))

    pub flat_no_conflict : (p i q : ℕ) → flat_class b p i (production_number q) ≡ true → Conflict b p i q → ⊥
    unfolding may_stand_in
    flat_no_conflict p i q e h =
        let n = production_number q in
        let c = number_no_class (argument b p i) q (λ c. sym (flat_of_class b p i n c) ∙ e) in
        let may : may_stand b p i q ≡ true = rw (production_of_number q) at (and_second_true (is_production b n) (may_stand b p i (n - production_number 0)) (sym (flat_of_sort b p i n c) ∙ e)) in
        not_both (conflicts b p i q) ((conflict_test b w p i q).1 h) (not-true (conflicts b p i q) (and_second_true (fits b p i q) (not (conflicts b p i q)) may))

    plain_result : (x q : ℕ) → plain_class b x (production_number q) ≡ true → result_sort b q ≡ x
    plain_result x q e =
        let n = production_number q in
        let c = number_no_class x q (λ c. sym (plain_of_class b x n c) ∙ e) in
        rw (production_of_number q) at (eqb-true (result_sort b (n - production_number 0)) x (and_second_true (is_production b n) (eqb (result_sort b (n - production_number 0)) x) (sym (plain_of_sort b x n c) ∙ e)))

    -- a terminal is a character of a class
    plain_character : (x c : ℕ) → plain_class b x c ≡ true → is_terminal (flat_grammar b) c ≡ true → (is_class b x ≡ true) × (class_has b (x - class_base) c ≡ true)
    plain_character x c e terminal =
        ⊎_elim
        (λ h. (h, sym (plain_of_class b x c h) ∙ e))
        (λ h. let q = c - production_number 0 in
        let number = and_first_true (is_production b c) (eqb (result_sort b q) x) (sym (plain_of_sort b x c h) ∙ e) in
        not_both (is_terminal (flat_grammar b) c) terminal (ap (is_terminal (flat_grammar b)) (production_is b c number) ∙ production_result b q (production_there b c number)))
        (true_or_false (is_class b x))

-- ---- trees

pub arguments_size : (b : List ℕ) (p : ℕ) (f : Forest) (d : ℕ) → Arguments b p f d → size f ≡ d
unfolding Arguments size
arguments_size b p none zero h = refl
arguments_size b p none (suc d) h = absurd h
arguments_size b p (f ▷ t) zero h = absurd h
arguments_size b p (f ▷ t) (suc d) h = omega (arith, arguments_size b p f d h.0)

module _ (b : List ℕ) (w : WellFormed b) (bytes : (k : ℕ) → get_or b k 0 < characters) where
  -- a tree that is built at argument d of p and doesn't conflict there has its number in the argument's class
  stands : (p d : ℕ) (f : Forest) (t : Tree) → At d f t → Built b (argument b p d) t → ((i q : ℕ) (g : Forest) → At i f (node q g) → Conflict b p i q → ⊥)
      → flat_class b p d (root_number t) ≡ true
  unfolding Built
  stands p d f (leaf c) at h apart = flat_of_class b p d c h.0 ∙ h.1
  stands p d f (node q g) at h apart =
      flat_production b w p d q h.0 h.1
      (⊎_elim (λ e. absurd (apart d q g at ((conflict_test b w p d q).0 e))) (λ e. e) (true_or_false (conflicts b p d q)))

  mutual
    unfolding Built Generated

    built_generated : (t : Tree) (x : ℕ) → Built b x t → ConflictFree b t → Generated (flat_grammar b) (plain_class b x) t
    built_generated (leaf c) x h free =
        (plain_of_class b x c h.0 ∙ h.1, character_terminal b c (omega (arith, class_character b bytes (x - class_base) c h.1)))
    built_generated (node p f) x h free = (
      omega (arith, flat_length b, h.0),
      flat_result b p h.0,
      plain_production b w x p h.0 h.1,
      transport (sym (each_flat b p h.0 f))
          (arguments_each f p (argument_count b p) h.0 (omega arith) h.2 (λ i t at. conflict_free_argument free at) (λ i q g at c. conflict_free_root free (conflict_at at c))),
    )

    arguments_each : (f : Forest) (p d : ℕ) → p < productions b → d ≤ argument_count b p → Arguments b p f d
        → ((i : ℕ) (t : Tree) → At i f t → ConflictFree b t) → ((i q : ℕ) (g : Forest) → At i f (node q g) → Conflict b p i q → ⊥)
        → Each (flat_grammar b) (tabulate (argument_count b p) (flat_class b p)) f d
    arguments_each none p zero l m h free apart = tt
    arguments_each none p (suc d) l m h free apart = absurd h
    arguments_each (f ▷ t) p zero l m h free apart = absurd h
    arguments_each (f ▷ t) p (suc d) l m h free apart = (
      arguments_each f p d l (omega arith) h.0 (λ i s at. free i s (further at)) (λ i q g at. apart i q g (further at)),
      let at : At d (f ▷ t) t = at_last (arguments_size b p f d h.0) in
          generated_class (flat_grammar b) (plain_class b (argument b p d)) (get_or (tabulate (argument_count b p) (flat_class b p)) d no_class) t
          (built_generated t (argument b p d) h.1 (free d t at))
          (λ e. rw (flat_class_at b p d m) (stands p d (f ▷ t) t at h.1 apart)),
    )

  -- t has no conflict, and it may stand as argument i of p
  abbrev Standing : ℕ → ℕ → Tree → Type 0
  Standing p i t = ConflictFree b t × (flat_class b p i (root_number t) ≡ true)

  root_free : (p : ℕ) (f : Forest) → ((i : ℕ) (t : Tree) → At i f t → Standing p i t) → RootConflict b (node p f) → ⊥
  root_free p f all (conflict_at {i} {q} {g} at c) = flat_no_conflict b w bytes p i q (all i (node q g) at).1 c

  mutual
    unfolding Built Generated

    generated_built : (t : Tree) (x : ℕ) → Generated (flat_grammar b) (plain_class b x) t → Built b x t × ConflictFree b t
    generated_built (leaf c) x h = (plain_character b w bytes x c h.0 h.1, conflict_free_leaf)
    generated_built (node p f) x h =
        let l : p < productions b = omega (arith, flat_length b, h.0) in
        let (arguments, all) = each_arguments f p (argument_count b p) l (omega arith) (transport (each_flat b p l f) h.3) in
        ((l, plain_result b w bytes x p h.2, arguments), conflict_free_node (root_free p f all) (λ i t at. (all i t at).0))

    each_arguments : (f : Forest) (p d : ℕ) → p < productions b → d ≤ argument_count b p
        → Each (flat_grammar b) (tabulate (argument_count b p) (flat_class b p)) f d
        → Arguments b p f d × ((i : ℕ) (t : Tree) → At i f t → Standing p i t)
    each_arguments none p zero l m h = (tt, λ i t at. absurd (at_none at))
    each_arguments none p (suc d) l m h = absurd h
    each_arguments (f ▷ t) p zero l m h = absurd h
    each_arguments (f ▷ t) p (suc d) l m h =
        let (arguments, all) = each_arguments f p d l (omega arith) h.0 in
        let tree : Generated (flat_grammar b) (flat_class b p d) t = rw (flat_class_at b p d m) at h.1 in
        let (built, free) = generated_built t (argument b p d) (generated_class (flat_grammar b) (flat_class b p d) (plain_class b (argument b p d)) t tree (flat_plain b w p d (root_number t))) in
        let e = arguments_size b p f d arguments in (
          (arguments, built),
          at_more (Standing p) all (free, rw e (generated_root (flat_grammar b) (flat_class b p d) t tree)),
        )

-- What the character class grammar generates is what the grammar builds without a conflict, at every sort and every class.
pub flat_trees : (b : List ℕ) → WellFormed b → ((k : ℕ) → get_or b k 0 < characters) → (x : ℕ) (t : Tree)
    → (Built b x t × ConflictFree b t) ↔ Generated (flat_grammar b) (plain_class b x) t
flat_trees b w bytes x t = ((λ h. built_generated b w bytes t x h.0 h.1), (λ h. generated_built b w bytes t x h))

-- The same for the lists of trees that stand at the first d arguments of a line.
module _ (b : List ℕ) (w : WellFormed b) (bytes : (k : ℕ) → get_or b k 0 < characters) (p d : ℕ) (lp : p < productions b) (ld : d ≤ argument_count b p) (f : Forest) where
  -- none has a conflict, neither in itself nor with the line
  pub record FreeList : Type 0 where
    pub built : Arguments b p f d
    pub free : (k : ℕ) (t : Tree) → At k f t → ConflictFree b t
    pub apart : (k q : ℕ) (h : Forest) → At k f (node q h) → Conflict b p k q → ⊥

  pub flat_lists : FreeList ↔ Each (flat_grammar b) (get_or (flat_grammar b) p no_line).arguments f d
  flat_lists = (
    (λ h. rw (flat_arguments b p lp) (arguments_each b w bytes f p d lp ld h.built h.free h.apart)),
    (λ e. let (arguments, all) = each_arguments b w bytes f p d lp ld (rw (flat_arguments b p lp) at e) in
        record { built = arguments; free = λ k t at. (all k t at).0; apart = λ k q h at. flat_no_conflict b w bytes p k q (all k (node q h) at).1 }),
  )
