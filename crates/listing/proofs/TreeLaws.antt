-- Going through the numbers of a listing finds them right exactly if a tree has them as its listing and spells the text: for any character class grammar whose
-- lines have their own numbers.
use Prim.Native.Nat.{ℕ, zero, suc, ◌+◌, ◌-◌, ◌≤◌, ◌<◌}
use mathlib.Core.Bool.{false, true, not, ◌||◌, false≢true}
use mathlib.Core.List.{List, [], ◌∷◌, ◌++◌, append_assoc, append-nil}
use mathlib.Core.Logic.{◌↔◌, ⊎_elim}
use mathlib.Core.Path.{◌≡◌, refl, sym, ◌∙◌, ap, ap₂, subst₂}
use native.Mathlib.Nat.{le_refl}
use native.Mathlib.Omega.{arith}
use lib.ListN.{length, get_or, take, drop, length-append, drop_of_length-le}
use lib.Seq.{take-length, take-suc, drop-cons, append_snoc}
use borrow.Author.Tests.{eqb-true, eq-eqb}
use Rattle.ccg.proofs.TerminalLaws.{production_no_terminal, no_terminal_production}
use Rattle.ccg.specs.Ccg.{Class, Line, no_line, no_class, is_terminal, Generated, Each, OwnNumbers}
use Rattle.common.proofs.BoolLaws.{and_first_true, and_second_true, true_or_false}
use Rattle.listing.specs.Judge.{is_next, is_right, due_after, text_after, judge}
use Rattle.listing.specs.declared.Judgement.TheVariants.{Right, Wrong}
use Rattle.theory.proofs.TreeLaws.{production_of_number}
use Rattle.theory.specs.Tree.{Tree, leaf, node, Forest, none, ◌▷◌, production_number, yield, yields, listing, listings}

-- ---- one number

module _ (g : List Line) (due : Class) (ns : List ℕ) (dues : List Class) where
  -- a character that is due and is the next byte
  judge_character : (c : ℕ) (w : List ℕ) (k : ℕ) → due c ≡ true → is_terminal g c ≡ true → judge g (c ∷ ns) (due ∷ dues) (c ∷ w) k ≡ judge g ns dues w (k + 1)
  unfolding judge is_right is_next due_after text_after
  judge_character c w k e h = rw (e, h, eq-eqb c c refl) refl

  -- the number of a line that is due
  judge_production : (n : ℕ) (w : List ℕ) (k : ℕ) → due n ≡ true → is_terminal g n ≡ false
      → judge g (n ∷ ns) (due ∷ dues) w k ≡ judge g ns ((get_or g (n - production_number 0) no_line).arguments ++ dues) w (k + 1)
  unfolding judge is_right due_after text_after
  judge_production n w k e h = rw (e, h) refl

-- ---- the numbers of a tree are right

-- Behind the numbers of a tree, and of a list of trees, going through them is where it would be without them.
module _ (g : List Line) (numbered : OwnNumbers g) where
  mutual
    unfolding Generated listing yield

    judge_tree : (t : Tree) (due : Class) (ns : List ℕ) (dues : List Class) (w : List ℕ) (k : ℕ) → Generated g due t
        → judge g (listing t ++ ns) (due ∷ dues) (yield t ++ w) k ≡ judge g ns dues w (k + length (listing t))
    judge_tree (leaf c) due ns dues w k h = judge_character g due ns dues c w k h.0 h.1
    judge_tree (node p f) due ns dues w k h =
        let ccs = (get_or g p no_line).arguments in
        judge_production g due (listings f ++ ns) dues (production_number p) (yields f ++ w) k h.2 (production_no_terminal g numbered p h.0)
        ∙ rw (production_of_number p)
        (ap (λ (c : List Class). judge g (listings f ++ ns) (c ++ dues) (yields f ++ w) (k + 1)) (sym (take-length ccs))
        ∙ judge_forest f ccs (length ccs) ns dues w (k + 1) h.3 (le_refl (length ccs))
        ∙ ap (judge g ns dues w) (omega arith))

    judge_forest : (f : Forest) (ccs : List Class) (d : ℕ) (ns : List ℕ) (dues : List Class) (w : List ℕ) (k : ℕ) → Each g ccs f d → d ≤ length ccs
        → judge g (listings f ++ ns) (take d ccs ++ dues) (yields f ++ w) k ≡ judge g ns dues w (k + length (listings f))
    judge_forest none ccs zero ns dues w k h l = ap (judge g ns dues w) (omega arith)
    judge_forest none ccs (suc d) ns dues w k h l = absurd h
    judge_forest (f ▷ t) ccs zero ns dues w k h l = absurd h
    judge_forest (f ▷ t) ccs (suc d) ns dues w k h l =
        let due = get_or ccs d no_class in
        rw (
          append_assoc (listings f) (listing t) ns,
          append_assoc (yields f) (yield t) w,
          take-suc ccs d no_class l,
          append_snoc (take d ccs) due dues,
          length-append (listings f) (listing t),
        )
        (judge_forest f ccs d (listing t ++ ns) (due ∷ dues) (yield t ++ w) k h.0 (omega arith)
        ∙ judge_tree t due ns dues w (k + length (listings f)) h.1
        ∙ ap (judge g ns dues w) (omega arith))

-- ---- numbers that are right are those of a tree

-- A tree for each class due; one behind the other, they have these numbers as their listings and spell the text.
unfoldable Covers : List Line → List Class → List ℕ → List ℕ → Type 0
Covers g [] ns w = (ns ≡ []) × (w ≡ [])
Covers g (due ∷ dues) ns w =
    (t : Tree) × (ns' : List ℕ) × (w' : List ℕ) × Generated g due t × (ns ≡ listing t ++ ns') × (w ≡ yield t ++ w') × Covers g dues ns' w'

-- What these numbers and this text have for the arguments of a line: a list of trees, one to an argument, and behind it trees for the classes due after that.
record Gathered (g : List Line) (ccs dues : List Class) (ns w : List ℕ) : Type 0 where
  trees : Forest
  numbers : List ℕ
  text : List ℕ
  each : Each g ccs trees (length ccs)
  listed : ns ≡ listings trees ++ numbers
  spelled : w ≡ yields trees ++ text
  others : Covers g dues numbers text

-- the trees of the first d arguments are f, and m are to be gathered
module _ (g : List Line) (ccs dues : List Class) where
  gather : (m d : ℕ) (f : Forest) (ns w : List ℕ) → d + m ≡ length ccs → Each g ccs f d → Covers g (drop d ccs ++ dues) ns w
      → Gathered g ccs dues (listings f ++ ns) (yields f ++ w)
  unfolding Covers Each listings yields
  gather zero d f ns w e each h =
      let all : d ≡ length ccs = omega arith in
      let nothing : drop d ccs ≡ [] = drop_of_length-le ccs {i = d} (omega arith) in
      record { trees = f; numbers = ns; text = w; each = rw all at each; listed = refl; spelled = refl; others = rw nothing at h }
  gather (suc m) d f ns w e each h =
      let next : drop d ccs ≡ get_or ccs d no_class ∷ drop (suc d) ccs = drop-cons ccs d no_class (omega arith) in
      let (t, ns', w', tree, list, spells, others) : Covers g (get_or ccs d no_class ∷ drop (suc d) ccs ++ dues) ns w = rw next at h in
      subst₂ (Gathered g ccs dues)
      (append_assoc (listings f) (listing t) ns' ∙ ap (λ (v : List ℕ). listings f ++ v) (sym list))
      (append_assoc (yields f) (yield t) w' ∙ ap (λ (v : List ℕ). yields f ++ v) (sym spells))
      (gather m (suc d) (f ▷ t) ns' w' (omega arith) (each, tree) others)

wrong_not_right : {A : Type 0} (k : ℕ) → Wrong k ≡ Right → A
wrong_not_right k e = let z : ◌≡◌ {A = ℕ} 0 1 = cc in absurd (omega arith)

-- a byte that is next is the first that is left
next_there : (w : List ℕ) (n : ℕ) → is_next w n ≡ true → w ≡ n ∷ drop 1 w
unfolding is_next
next_there [] n e = absurd (false≢true e)
next_there (c ∷ w) n e = rw (eqb-true c n e) refl

-- The answer is "right": then the number is, and what follows is.
module _ (g : List Line) (due : Class) (n : ℕ) (ns : List ℕ) (dues : List Class) (w : List ℕ) (k : ℕ) (e : judge g (n ∷ ns) (due ∷ dues) w k ≡ Right) where
  number_right : is_right g due w n ≡ true
  unfolding judge
  number_right = ⊎_elim (λ t. t) (λ t. wrong_not_right k (rw t at e)) (true_or_false (is_right g due w n))

  right_due : due n ≡ true
  unfolding is_right
  right_due = and_first_true (due n) (not (is_terminal g n) || is_next w n) number_right

  following_right : judge g ns (due_after g n ++ dues) (text_after g w n) (k + 1) ≡ Right
  unfolding judge
  following_right = rw number_right at e

  -- a character is the next byte
  character_right : is_terminal g n ≡ true → (w ≡ n ∷ drop 1 w) × (judge g ns dues (drop 1 w) (k + 1) ≡ Right)
  unfolding is_right due_after text_after
  character_right t = (next_there w n (rw t at (and_second_true (due n) (not (is_terminal g n) || is_next w n) number_right)), rw t at following_right)

  production_right : is_terminal g n ≡ false → judge g ns ((get_or g (n - production_number 0) no_line).arguments ++ dues) w (k + 1) ≡ Right
  unfolding due_after text_after
  production_right t = rw t at following_right

module _ (g : List Line) (numbered : OwnNumbers g) where
  -- a line's number, and behind it the trees of its arguments
  node_covers : (due : Class) (dues : List Class) (n p : ℕ) (ns w : List ℕ) → due n ≡ true → n ≡ production_number p → p < length g
      → Gathered g (get_or g p no_line).arguments dues ns w → Covers g (due ∷ dues) (n ∷ ns) w
  unfolding Covers Generated listing yield
  node_covers due dues n p ns w e number l found = (
    node p found.trees,
    found.numbers,
    found.text,
    (l, numbered.own p l, ap due (sym number) ∙ e, found.each),
    ap₂ (λ (m : ℕ) (v : List ℕ). m ∷ v) number found.listed,
    found.spelled,
    found.others,
  )

  -- the classes due have trees, if the answer is "right"
  judge_covers : (ns : List ℕ) (dues : List Class) (w : List ℕ) (k : ℕ) → judge g ns dues w k ≡ Right → Covers g dues ns w
  unfolding judge Covers Generated listing yield
  judge_covers [] [] [] k e = (refl, refl)
  judge_covers [] [] (c ∷ w) k e = wrong_not_right k e
  judge_covers [] (due ∷ dues) w k e = wrong_not_right k e
  judge_covers (n ∷ ns) [] w k e = wrong_not_right k e
  judge_covers (n ∷ ns) (due ∷ dues) w k e =
      let is_due = right_due g due n ns dues w k e in
      ⊎_elim
      (λ t. let (spelled, following) = character_right g due n ns dues w k e t in
      (leaf n, ns, drop 1 w, (is_due, t), refl, spelled, judge_covers ns dues (drop 1 w) (k + 1) following))
      (λ t. let (number, l) = no_terminal_production g numbered n t in
      let p = n - production_number 0 in
      let ccs = (get_or g p no_line).arguments in
      let arguments = judge_covers ns (ccs ++ dues) w (k + 1) (production_right g due n ns dues w k e t) in
      node_covers due dues n p ns w is_due number l (gather g ccs dues (length ccs) 0 none ns w (omega arith) tt arguments))
      (true_or_false (is_terminal g n))

  -- ---- the whole listing

  right_tree : (cc : Class) (ns w : List ℕ) → judge g ns (cc ∷ []) w 0 ≡ Right → (t : Tree) × Generated g cc t × (listing t ≡ ns) × (yield t ≡ w)
  unfolding Covers
  right_tree cc ns w e =
      let (t, ns', w', tree, list, spells, ends) : Covers g (cc ∷ []) ns w = judge_covers ns (cc ∷ []) w 0 e in
      (t, tree, sym (list ∙ rw ends.0 (append-nil (listing t))), sym (spells ∙ rw ends.1 (append-nil (yield t))))

  tree_right : (cc : Class) (ns w : List ℕ) (t : Tree) → Generated g cc t → listing t ≡ ns → yield t ≡ w → judge g ns (cc ∷ []) w 0 ≡ Right
  unfolding judge
  tree_right cc ns w t tree list spells =
      ap₂ (λ (v : List ℕ) (u : List ℕ). judge g v (cc ∷ []) u 0) (sym list ∙ sym (append-nil (listing t))) (sym spells ∙ sym (append-nil (yield t)))
      ∙ judge_tree g numbered t cc [] [] [] 0 tree

-- The numbers are found right exactly if they are the listing of a tree of the class due at the root, and it spells the text.
pub judge_right : (g : List Line) → OwnNumbers g → (cc : Class) (ns w : List ℕ)
    → (judge g ns (cc ∷ []) w 0 ≡ Right) ↔ ((t : Tree) × Generated g cc t × (listing t ≡ ns) × (yield t ≡ w))
judge_right g numbered cc ns w = ((λ e. right_tree g numbered cc ns w e), (λ h. tree_right g numbered cc ns w h.0 h.1 h.2 h.3))
