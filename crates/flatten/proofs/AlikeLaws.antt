-- Lists that declare the same pairs have the same character class grammar, the same readings and the same lists of trees to count.
use Prim.Native.Nat.{ℕ}
use mathlib.Core.Path.{◌≡◌, refl, sym, fun_ext}
use mathlib.Core.List.{List}
use mathlib.Core.Logic.{◌↔◌}
use Rattle.common.proofs.ListLaws.{tabulate_same}
use Rattle.flatten.specs.Flat.{may_stand_in, flat_class_in, flat_line_in, flat_grammar_in}
use Rattle.flatten.specs.Reading.{ReadingIn, EntryListIn}
use Rattle.flatten.specs.Trees.{RootConflictIn, conflict_at, ConflictFreeIn}
use Rattle.layout.specs.Layout.{productions, argument_count}
use Rattle.priority.proofs.SpelledLaws.{conflicts_alike, conflict_carried}
use Rattle.priority.specs.Priorities.{Kind, declared_in}
use Rattle.priority.specs.declared.Declaration.{Declaration}
use Rattle.theory.specs.Tree.{Tree, Forest}

-- ---- the character class grammar

module _ (ls ms : List Declaration) (e : (k : Kind) (x y : ℕ) → declared_in ls k x y ≡ declared_in ms k x y) (b : List ℕ) where
  class_alike : (p i : ℕ) → flat_class_in b ls p i ≡ flat_class_in b ms p i
  unfolding flat_class_in may_stand_in
  class_alike p i = fun_ext (λ n. rw (conflicts_alike ls ms e b p i _) refl)

  line_alike : (p : ℕ) → flat_line_in b ls p ≡ flat_line_in b ms p
  unfolding flat_line_in
  line_alike p = rw (tabulate_same (argument_count b p) (flat_class_in b ls p) (flat_class_in b ms p) (λ i l. class_alike p i)) refl

  pub flat_alike : flat_grammar_in b ls ≡ flat_grammar_in b ms
  unfolding flat_grammar_in
  flat_alike = tabulate_same (productions b) (flat_line_in b ls) (flat_line_in b ms) (λ p l. line_alike p)

-- ---- trees

module _ (ls ms : List Declaration) (e : (k : Kind) (x y : ℕ) → declared_in ls k x y ≡ declared_in ms k x y) {b : List ℕ} where
  root_carried : {t : Tree} → RootConflictIn b ls t → RootConflictIn b ms t
  root_carried (conflict_at at c) = conflict_at at (conflict_carried ls ms e c)

  -- a tree without a conflict by the second list has none by the first
  free_carried : {t : Tree} → ConflictFreeIn b ms t → ConflictFreeIn b ls t
  free_carried free h = free (record { subtree = h.subtree; is_subtree = h.is_subtree; root = root_carried h.root })

  reading_carried : {w : List ℕ} {t : Tree} → ReadingIn b ms w t → ReadingIn b ls w t
  reading_carried r = record { built = r.built; free = free_carried r.free; spells = r.spells }

  entry_carried : {w : List ℕ} {p d i j : ℕ} {f : Forest} → EntryListIn b ms w p d i j f → EntryListIn b ls w p d i j f
  entry_carried r =
      record {
        built = r.built;
        free = λ k t at. free_carried (r.free k t at);
        apart = λ k q h at c. r.apart k q h at (conflict_carried ls ms e c);
        spells = r.spells;
      }

module _ (ls ms : List Declaration) (e : (k : Kind) (x y : ℕ) → declared_in ls k x y ≡ declared_in ms k x y) (b w : List ℕ) where
  pub reading_alike : (t : Tree) → ReadingIn b ls w t ↔ ReadingIn b ms w t
  reading_alike t = (reading_carried ms ls (λ k x y. sym (e k x y)), reading_carried ls ms e)

  pub entry_alike : (p d i j : ℕ) (f : Forest) → EntryListIn b ls w p d i j f ↔ EntryListIn b ms w p d i j f
  entry_alike p d i j f = (entry_carried ms ls (λ k x y. sym (e k x y)), entry_carried ls ms e)
