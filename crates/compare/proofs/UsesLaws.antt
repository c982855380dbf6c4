-- Laws of uses: counting goes number by number, and a listing shows the uses of its tree.
use Prim.Native.Nat.{ℕ, zero, suc, ◌+◌, ◌-◌, ◌≤◌, ◌<◌}
use mathlib.Core.List.{List, [], ◌∷◌, ◌++◌}
use mathlib.Core.Path.{◌≡◌, refl, sym, ◌∙◌, ap, ap₂}
use native.Mathlib.Decide.{ℕ_discrete}
use native.Mathlib.Numerals.{add-one}
use native.Mathlib.Omega.{arith}
use lib.Dec.{eqb}
use lib.ListN.{length, get_or, drop, drop_of_length-le}
use lib.Seq.{drop-cons}
use borrow.Author.Tests.{eq-eqb, ne_eqb}
use Rattle.charset.specs.Set.{characters}
use Rattle.classes.proofs.ClassesLaws.{class_character}
use Rattle.common.proofs.BelowLaws.{bit_small}
use Rattle.common.specs.Below.{bit_of}
use Rattle.compare.specs.Uses.{occurrences, tree_uses, forest_uses}
use Rattle.flatten.specs.Trees.{Built, Arguments}
use Rattle.layout.specs.Layout.{argument_count}
use Rattle.layout.specs.Limits.{class_base}
use Rattle.theory.specs.Tree.{Tree, leaf, node, Forest, none, ◌▷◌, production_number, listing, listings}

-- ---- occurrences

pub occurrences_append : (n : ℕ) (a b : List ℕ) → occurrences n (a ++ b) ≡ occurrences n a + occurrences n b
unfolding occurrences
occurrences_append n [] b = omega arith
occurrences_append n (x ∷ a) b = let e = occurrences_append n a b in omega arith

pub occurrences_few : (n : ℕ) (numbers : List ℕ) → occurrences n numbers ≤ length numbers
unfolding occurrences
occurrences_few n [] = omega arith
occurrences_few n (x ∷ numbers) = omega (arith, occurrences_few n numbers, bit_small (eqb x n))

-- number k, and those behind it
pub occurrences_next : (n : ℕ) (numbers : List ℕ) (k : ℕ) → k < length numbers
    → occurrences n (drop k numbers) ≡ bit_of (eqb (get_or numbers k 0) n) + occurrences n (drop (k + 1) numbers)
unfolding occurrences
occurrences_next n numbers k l = rw (add-one k, drop-cons numbers k 0 l) refl

pub occurrences_end : (n : ℕ) (numbers : List ℕ) (k : ℕ) → length numbers ≤ k → occurrences n (drop k numbers) ≡ 0
unfolding occurrences
occurrences_end n numbers k l = rw (drop_of_length-le numbers l) refl

-- ---- a listing shows the uses of its tree

-- numbers of productions are equal where the productions are
same_production_lem : (q p : ℕ) → eqb (production_number q) (production_number p) ≡ eqb q p
same_production_lem q p = elim (ℕ_discrete q p) [
  | yes e ↦ eq-eqb (production_number q) (production_number p) (ap production_number e) ∙ sym (eq-eqb q p e)
  | no e ↦ ne_eqb (production_number q) (production_number p) (λ f. e (omega arith)) ∙ sym (ne_eqb q p e)
]

module _ (b : List ℕ) (bytes : (k : ℕ) → get_or b k 0 < characters) (p : ℕ) where
  mutual
    unfolding Built listing tree_uses occurrences

    -- a character is no number of a production
    pub listed_uses : (t : Tree) (x : ℕ) → Built b x t → occurrences (production_number p) (listing t) ≡ tree_uses t p
    listed_uses (leaf c) x h = ap (λ (k : ℕ). k + 0) (ap bit_of (ne_eqb c (production_number p) (λ e. omega (arith, class_character b bytes (x - class_base) c h.1))))
    listed_uses (node q f) x h = ap₂ ◌+◌ (ap bit_of (same_production_lem q p)) (below_uses f q (argument_count b q) h.2)

    below_uses : (f : Forest) (q d : ℕ) → Arguments b q f d → occurrences (production_number p) (listings f) ≡ forest_uses f p
    below_uses none q d h = refl
    below_uses (f ▷ t) q zero h = absurd h
    below_uses (f ▷ t) q (suc d) h = occurrences_append (production_number p) (listings f) (listing t) ∙ ap₂ ◌+◌ (below_uses f q d h.0) (listed_uses t _ h.1)
