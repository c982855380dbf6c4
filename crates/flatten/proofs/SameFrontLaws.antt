-- Grammars that differ only in their declarations and in which end of a range stands first have, by a list of declarations, the same character class grammar, the
-- same readings and the same lists of trees to count.
use Prim.Native.Nat.{ℕ, zero, suc, ◌-◌, ◌≤◌, ◌<◌}
use mathlib.Core.Path.{◌≡◌, refl, sym, ◌∙◌, ap, subst, fun_ext}
use mathlib.Core.Bool.{Bool, false, true, cond, ◌&&◌}
use mathlib.Core.List.{List}
use native.Mathlib.Omega.{arith}
use lib.Dec.{leb, ltb, eqb}
use Rattle.classes.proofs.ClassesLaws.{class_there}
use Rattle.classes.specs.Classes.{is_class, class_has}
use Rattle.common.proofs.BoolLaws.{and_same}
use Rattle.common.proofs.ListLaws.{tabulate_same}
use Rattle.common.specs.Lists.{tabulate}
use Rattle.flatten.proofs.FlatLaws.{production_there, arguments_size}
use Rattle.flatten.specs.Flat.{is_production, may_stand_in, flat_class_in, flat_line_in, flat_grammar_in, plain_class}
use Rattle.flatten.specs.Reading.{ReadingIn, EntryListIn}
use Rattle.flatten.specs.Trees.{Built, Arguments, RootConflictIn, conflict_at, HasConflictIn}
use Rattle.grammar.proofs.SameFrontLaws.{SameFront, front_back, same_productions, same_start, same_count, same_result, same_argument_lem, same_is_class, same_class_has}
use Rattle.layout.specs.Layout.{productions, start_sort, argument_count, result_sort, argument}
use Rattle.layout.specs.Limits.{class_base}
use Rattle.priority.proofs.SameFrontLaws.{front_fits, front_conflicts, front_conflict}
use Rattle.priority.specs.declared.Declaration.{Declaration}
use Rattle.theory.proofs.TreeLaws.{at_none, at_more}
use Rattle.theory.specs.Tree.{Tree, leaf, node, Forest, none, ◌▷◌, production_number, At, Subtree, itself, below}

-- ---- the character class grammar

-- a choice of tests that agree where they are chosen
cond_same : (v a a' b b' : Bool) → (v ≡ true → a ≡ a') → b ≡ b' → cond v a b ≡ cond v a' b'
cond_same true a a' b b' e f = e refl
cond_same false a a' b b' e f = f

module _ (b c : List ℕ) (same : SameFront b c) where
  -- which numbers are those of productions
  front_production : (n : ℕ) → is_production c n ≡ is_production b n
  unfolding is_production
  front_production n = ap (λ (m : ℕ). leb (production_number 0) n && ltb n (production_number m)) (same_productions b c same)

  -- a character of the class that a byte is, or else the number of a production that passes a test, if the tests agree on productions
  front_choice : (x n : ℕ) (u v : Bool) → (is_production b n ≡ true → u ≡ v)
      → cond (is_class c x) (class_has c (x - class_base) n) (is_production c n && u) ≡ cond (is_class b x) (class_has b (x - class_base) n) (is_production b n && v)
  front_choice x n u v e =
      rw (same_is_class b c same x, front_production n)
      (cond_same (is_class b x) (class_has c (x - class_base) n) (class_has b (x - class_base) n) (is_production b n && u) (is_production b n && v)
      (λ h. same_class_has b c same (x - class_base) n (class_there b x h))
      (and_same (is_production b n) u v e))

  -- what may stand at a byte, conflicts let through
  pub front_plain : (x : ℕ) → plain_class c x ≡ plain_class b x
  unfolding plain_class
  front_plain x =
      fun_ext (λ n. let q = n - production_number 0 in
      front_choice x n (eqb (result_sort c q) x) (eqb (result_sort b q) x) (λ e. ap (λ (s : ℕ). eqb s x) (same_result b c same q (production_there b n e))))

module _ (b c : List ℕ) (same : SameFront b c) (ls : List Declaration) where
  -- which production may stand as an argument
  front_stand : (p i q : ℕ) → p < productions b → i < argument_count b p → q < productions b → may_stand_in c ls p i q ≡ may_stand_in b ls p i q
  unfolding may_stand_in
  front_stand p i q lp li lq = rw (front_fits b c same p i q lp li lq, front_conflicts b c same p i q lp li lq ls) refl

  -- the class of an argument
  front_class : (p i : ℕ) → p < productions b → i < argument_count b p → flat_class_in c ls p i ≡ flat_class_in b ls p i
  unfolding flat_class_in
  front_class p i lp li =
      fun_ext (λ n. let q = n - production_number 0 in
      rw (same_argument_lem b c same p i lp li)
      (front_choice b c same (argument b p i) n (may_stand_in c ls p i q) (may_stand_in b ls p i q) (λ e. front_stand p i q lp li (production_there b n e))))

  -- the line of a production
  front_line : (p : ℕ) → p < productions b → flat_line_in c ls p ≡ flat_line_in b ls p
  unfolding flat_line_in
  front_line p l =
      rw (same_count b c same p l, tabulate_same (argument_count b p) (flat_class_in c ls p) (flat_class_in b ls p) (λ i m. front_class p i l m)) refl

  -- all lines
  pub front_flat : flat_grammar_in c ls ≡ flat_grammar_in b ls
  unfolding flat_grammar_in
  front_flat = ap (λ (n : ℕ). tabulate n (flat_line_in c ls)) (same_productions b c same) ∙ tabulate_same (productions b) (flat_line_in c ls) (flat_line_in b ls) front_line

-- ---- the parts of a tree that is built

module _ (b : List ℕ) where
  -- a tree of the list stands at one of the arguments, and is built there
  arguments_at : (p : ℕ) (f : Forest) (d : ℕ) → Arguments b p f d → (i : ℕ) (t : Tree) → At i f t → (i < d) × Built b (argument b p i) t
  unfolding Arguments
  arguments_at p none zero h i t at = absurd (at_none at)
  arguments_at p none (suc d) h i t at = absurd h
  arguments_at p (f ▷ s) zero h i t at = absurd h
  arguments_at p (f ▷ s) (suc d) h i t at =
      let e = arguments_size b p f d h.0 in
      at_more (λ (j : ℕ) (u : Tree). (j < suc d) × Built b (argument b p j) u)
      (λ j u k. let (l, o) = arguments_at p f d h.0 j u k in (omega arith, o))
      (omega arith, subst (λ (j : ℕ). Built b (argument b p j) s) (sym e) h.1) i t at

  -- a subtree is built somewhere
  subtree_built : {s t : Tree} → Subtree s t → (x : ℕ) → Built b x t → (y : ℕ) × Built b y s
  unfolding Built
  subtree_built itself x h = (x, h)
  subtree_built (below {p} {i} {f} {t} at s) x h = subtree_built s (argument b p i) (arguments_at p f (argument_count b p) h.2 i t at).1

-- ---- the readings

module _ (b c : List ℕ) (same : SameFront b c) where
  mutual
    unfolding Built

    -- what the one grammar builds the other builds
    front_built : (t : Tree) (x : ℕ) → Built b x t → Built c x t
    front_built (leaf n) x h = (same_is_class b c same x ∙ h.0, same_class_has b c same (x - class_base) n (class_there b x h.0) ∙ h.1)
    front_built (node p f) x h = (
      omega (arith, same_productions b c same, h.0),
      same_result b c same p h.0 ∙ h.1,
      subst (Arguments c p f) (sym (same_count b c same p h.0)) (front_arguments f p (argument_count b p) h.0 (omega arith) h.2),
    )

    -- so it is with a list of arguments
    front_arguments : (f : Forest) (p d : ℕ) → p < productions b → d ≤ argument_count b p → Arguments b p f d → Arguments c p f d
    front_arguments none p zero l m h = tt
    front_arguments none p (suc d) l m h = absurd h
    front_arguments (f ▷ t) p zero l m h = absurd h
    front_arguments (f ▷ t) p (suc d) l m h =
        (front_arguments f p d l (omega arith) h.0, subst (λ (x : ℕ). Built c x t) (sym (same_argument_lem b c same p d l m)) (front_built t (argument b p d) h.1))

  module _ (ls : List Declaration) where
    -- a conflict at the root of a tree that is built
    front_root : (t : Tree) (x : ℕ) → Built b x t → RootConflictIn b ls t → RootConflictIn c ls t
    unfolding Built
    front_root t x h (conflict_at {p} {i} {q} {f} {g} at k) =
        let (l, o) = arguments_at b p f (argument_count b p) h.2 i (node q g) at in
        conflict_at at (front_conflict b c same p i q h.0 l o.0 k)

    -- one anywhere in it
    front_has : (t : Tree) (x : ℕ) → Built b x t → HasConflictIn b ls t → HasConflictIn c ls t
    front_has t x h k =
        let (y, o) = subtree_built b k.is_subtree x h in
        record { subtree = k.subtree; is_subtree = k.is_subtree; root = front_root k.subtree y o k.root }

-- a reading by the one grammar is one by the other
pub front_reading : (b c : List ℕ) → SameFront b c → (ls : List Declaration) (w : List ℕ) (t : Tree) → ReadingIn b ls w t → ReadingIn c ls w t
front_reading b c same ls w t r =
    let built : Built c (start_sort c) t = subst (λ (x : ℕ). Built c x t) (sym (same_start b c same)) (front_built b c same t (start_sort b) r.built) in
    record { built = built; free = λ h. r.free (front_has c b (front_back b c same) ls t (start_sort c) built h); spells = r.spells }

-- so is a list of trees that an entry of the chart counts
pub front_entry : (b c : List ℕ) → SameFront b c → (ls : List Declaration) (w : List ℕ) (p d i j : ℕ) → p < productions b → d ≤ argument_count b p → (f : Forest)
    → EntryListIn b ls w p d i j f → EntryListIn c ls w p d i j f
unfolding Built
front_entry b c same ls w p d i j l m f r =
    let back = front_back b c same in
    let built = front_arguments b c same f p d l m r.built in
    let there : (k : ℕ) (t : Tree) → At k f t → (k < d) × Built c (argument c p k) t = arguments_at c p f d built in
    record {
      built = built;
      free = λ k t at h. r.free k t at (front_has c b back ls t (argument c p k) (there k t at).1 h);
      apart = λ k q h at x. let (n, o) = there k (node q h) at in
          r.apart k q h at (front_conflict c b back p k q (omega (arith, same_productions b c same)) (omega (arith, same_count b c same p l)) o.0 x);
      spells = r.spells;
    }
