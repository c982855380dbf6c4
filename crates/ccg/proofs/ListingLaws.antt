-- A listing determines its tree, for every character class grammar whose lines have their own numbers.
use Prim.Native.Nat.{ℕ, zero, suc, ◌<◌}
use mathlib.Core.Bool.{true, true≢false}
use mathlib.Core.List.{List, [], ◌++◌, append_assoc, head-eq_of_cons-eq, tail-eq_of_cons-eq}
use mathlib.Core.Path.{◌≡◌, refl, sym, ◌∙◌, ap}
use native.Mathlib.Omega.{arith}
use lib.ListN.{length, get_or}
use Rattle.ccg.proofs.TerminalLaws.{production_no_terminal}
use Rattle.ccg.specs.Ccg.{Class, Line, no_line, no_class, is_terminal, OwnNumbers, Generated, Each}
use Rattle.theory.specs.Tree.{Tree, leaf, node, Forest, none, ◌▷◌, production_number, listing, listings}

-- a terminal is not the number of a line
terminal_no_line : (g : List Line) → OwnNumbers g → (n p : ℕ) → is_terminal g n ≡ true → p < length g → n ≡ production_number p → ⊥
terminal_no_line g numbered n p h l e = true≢false (sym h ∙ ap (is_terminal g) e ∙ production_no_terminal g numbered p l)

-- A tree can be read off the front of numbers, and so can a list of trees if it is known how many there are.
mutual
  unfolding Generated listing

  pub listing_front : (g : List Line) → OwnNumbers g → (a c : Class) (t u : Tree) (r s : List ℕ) → Generated g a t → Generated g c u
      → listing t ++ r ≡ listing u ++ s → (t ≡ u) × (r ≡ s)
  listing_front g numbered a c (leaf n) (leaf m) r s h k e = (ap leaf (head-eq_of_cons-eq e), tail-eq_of_cons-eq e)
  listing_front g numbered a c (leaf n) (node q f) r s h k e = absurd (terminal_no_line g numbered n q h.1 k.0 (head-eq_of_cons-eq e))
  listing_front g numbered a c (node p f) (leaf m) r s h k e = absurd (terminal_no_line g numbered m p k.1 h.0 (sym (head-eq_of_cons-eq e)))
  listing_front g numbered a c (node p f) (node q j) r s h k e =
      let number : production_number p ≡ production_number q = head-eq_of_cons-eq e in
      let line : p ≡ q = omega arith in
      let ccs = (get_or g q no_line).arguments in
      let (trees, rest) = listings_front g numbered ccs f j (length ccs) r s (rw line at h).3 k.3 (tail-eq_of_cons-eq e) in
      (λ i. node (line i) (trees i), rest)

  -- one tree for each of the first d classes
  listings_front : (g : List Line) → OwnNumbers g → (ccs : List Class) (f j : Forest) (d : ℕ) (r s : List ℕ) → Each g ccs f d → Each g ccs j d
      → listings f ++ r ≡ listings j ++ s → (f ≡ j) × (r ≡ s)
  listings_front g numbered ccs none none d r s h k e = (refl, e)
  listings_front g numbered ccs none (j ▷ u) zero r s h k e = absurd k
  listings_front g numbered ccs none (j ▷ u) (suc d) r s h k e = absurd h
  listings_front g numbered ccs (f ▷ t) j zero r s h k e = absurd h
  listings_front g numbered ccs (f ▷ t) none (suc d) r s h k e = absurd k
  listings_front g numbered ccs (f ▷ t) (j ▷ u) (suc d) r s h k e =
      let moved = sym (append_assoc (listings f) (listing t) r) ∙ e ∙ append_assoc (listings j) (listing u) s in
      let (trees, after) = listings_front g numbered ccs f j d (listing t ++ r) (listing u ++ s) h.0 k.0 moved in
      let due = get_or ccs d no_class in
      let (tree, rest) = listing_front g numbered due due t u r s h.1 k.1 after in
      (λ i. trees i ▷ tree i, rest)

-- trees with the same listing are the same: nothing stands behind either
pub listing_determines : (g : List Line) → OwnNumbers g → (a c : Class) (t u : Tree) → Generated g a t → Generated g c u → listing t ≡ listing u → t ≡ u
listing_determines g numbered a c t u h k e = (listing_front g numbered a c t u [] [] h k (ap (λ (v : List ℕ). v ++ []) e)).0
