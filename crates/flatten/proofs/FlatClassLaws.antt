-- Demand 2 at every class: the trees of the character class grammar in a class, and those of a line's argument.
use Prim.Native.Nat.{ℕ, ◌<◌}
use mathlib.Core.Path.{◌≡◌, refl, ◌∙◌}
use mathlib.Core.Bool.{true}
use mathlib.Core.List.{List}
use mathlib.Core.Logic.{◌↔◌, ⊎_elim}
use native.Mathlib.Omega.{arith}
use lib.ListN.{get_or}
use Rattle.flatten.proofs.FlatLaws.{flat_length, flat_of_class, flat_plain, flat_production, plain_production, flat_no_conflict, flat_trees}
use Rattle.ccg.proofs.CcgLaws.{root_number, generated_class, generated_root}
use Rattle.ccg.specs.Ccg.{Class, Generated}
use Rattle.flatten.specs.Flat.{flat_class, flat_grammar, plain_class}
use Rattle.flatten.specs.Trees.{Built, ConflictFree, Apart}
use Rattle.charset.specs.Set.{characters}
use Rattle.common.proofs.BoolLaws.{true_or_false}
use Rattle.grammar.specs.Formed.{WellFormed}
use Rattle.layout.specs.Layout.{productions, result_sort, argument}
use Rattle.priority.proofs.ConflictLaws.{conflict_test}
use Rattle.priority.specs.Conflict.{conflicts}
use Rattle.theory.specs.Tree.{Tree, leaf, node, Forest, production_number}

module _ (b : List ℕ) (w : WellFormed b) (bytes : (k : ℕ) → get_or b k 0 < characters) (cc : Class) (p : ℕ) (f : Forest) where
  -- the number of a production that is there is in the class of its result
  own_class : p < productions b → plain_class b (result_sort b p) (production_number p) ≡ true
  own_class l = plain_production b w (result_sort b p) p l refl

  -- A tree of any class with a production at its root is built at that production's result without a conflict, and back.
  pub flat_any : Generated (flat_grammar b) cc (node p f) ↔ ((cc (production_number p) ≡ true) × Built b (result_sort b p) (node p f) × ConflictFree b (node p f))
  unfolding Generated Built
  flat_any = (
    (λ h. let l : p < productions b = omega (arith, flat_length b, h.0) in
        let (built, free) = (flat_trees b w bytes (result_sort b p) (node p f)).1 (generated_class (flat_grammar b) cc (plain_class b (result_sort b p)) (node p f) h (λ e. own_class l)) in
        (h.2, built, free)),
    (λ (own, built, free). generated_class (flat_grammar b) (plain_class b (result_sort b p)) cc (node p f) ((flat_trees b w bytes (result_sort b p) (node p f)).0 (built, free)) (λ e. own)),
  )

-- A tree of a line's argument is built there, has no conflict, and doesn't conflict with the line, and back.
module _ (b : List ℕ) (w : WellFormed b) (bytes : (k : ℕ) → get_or b k 0 < characters) (p i : ℕ) where
  apart_of : (t : Tree) → flat_class b p i (root_number t) ≡ true → Apart b p i t
  apart_of (leaf c) e = tt
  apart_of (node q f) e = flat_no_conflict b w bytes p i q e

  class_of : (t : Tree) → Built b (argument b p i) t → Apart b p i t → flat_class b p i (root_number t) ≡ true
  unfolding Built
  class_of (leaf c) h a = flat_of_class b p i c h.0 ∙ h.1
  class_of (node q f) h a =
      flat_production b w p i q h.0 h.1
      (⊎_elim (λ e. absurd (a ((conflict_test b w p i q).0 e))) (λ e. e) (true_or_false (conflicts b p i q)))

  pub flat_argument : (t : Tree) → Generated (flat_grammar b) (flat_class b p i) t ↔ (Built b (argument b p i) t × ConflictFree b t × Apart b p i t)
  flat_argument t =
      let plain = plain_class b (argument b p i) in
      let here = flat_class b p i in (
        (λ h. let (built, free) = (flat_trees b w bytes (argument b p i) t).1 (generated_class (flat_grammar b) here plain t h (flat_plain b w p i (root_number t))) in
            (built, free, apart_of t (generated_root (flat_grammar b) here t h))),
        (λ (built, free, apart). generated_class (flat_grammar b) plain here t ((flat_trees b w bytes (argument b p i) t).0 (built, free)) (λ e. class_of t built apart)),
      )
