-- Laws of trees that spell a part of a text: where they end, and what they spell.
use Prim.Native.Nat.{ℕ, zero, suc, ◌+◌, ◌-◌, ◌≤◌}
use mathlib.Core.Path.{◌≡◌, sym, ◌∙◌, ap, ap₂, subst}
use mathlib.Core.List.{List, [], ◌∷◌, ◌++◌}
use native.Mathlib.Omega.{arith}
use lib.ListN.{length, get_or, take, drop, length-append, take-append-drop, length-take}
use lib.Seq.{take-append_seam, drop-append_seam, drop-append-le, take-take, take_at, drop_at, slice, slice_empty, slice-cons, length-slice}
use Rattle.theory.specs.Grammar.{Grammar, Spells, Stands, Derived, DerivedAt}
use Rattle.theory.specs.Tree.{Tree, leaf, node, Forest, none, ◌▷◌, yield, yields}

-- ---- places

mutual
  unfolding Spells

  -- a list of trees ends no earlier than it starts, and within the text
  pub spells_rises : (g : Grammar) (w : List ℕ) (p : ℕ) (f : Forest) (d i j : ℕ) → Spells g w p f d i j → (i ≤ j) × (j ≤ length w)
  spells_rises g w p none zero i j s = (omega (arith, s.0), s.1)
  spells_rises g w p none (suc d) i j s = absurd s
  spells_rises g w p (f ▷ t) zero i j s = absurd s
  spells_rises g w p (f ▷ t) (suc d) i j s =
      let a = spells_rises g w p f d i s.0 s.1 in
      let b = stands_rises g w p d t s.0 j s.2 in
      (omega (arith, a.0, b.0), b.1)

  pub stands_rises : (g : Grammar) (w : List ℕ) (p d : ℕ) (t : Tree) (m j : ℕ) → Stands g w p d t m j → (m ≤ j) × (j ≤ length w)
  stands_rises g w p d (leaf c) m j s = (omega (arith, s.0), s.1)
  stands_rises g w p d (node q f) m j s = spells_rises g w q f (g.arity q) m j s.2

mutual
  unfolding Spells yield

  -- a list of trees ends as many places on as it has characters
  spells_end : (g : Grammar) (w : List ℕ) (p : ℕ) (f : Forest) (d i j : ℕ) → Spells g w p f d i j → j ≡ i + length (yields f)
  spells_end g w p none zero i j s = omega (arith, s.0)
  spells_end g w p none (suc d) i j s = absurd s
  spells_end g w p (f ▷ t) zero i j s = absurd s
  spells_end g w p (f ▷ t) (suc d) i j s =
      omega (arith, spells_end g w p f d i s.0 s.1, stands_end g w p d t s.0 j s.2, length-append (yields f) (yield t))

  stands_end : (g : Grammar) (w : List ℕ) (p d : ℕ) (t : Tree) (m j : ℕ) → Stands g w p d t m j → j ≡ m + length (yield t)
  stands_end g w p d (leaf c) m j s = omega (arith, s.0)
  stands_end g w p d (node q f) m j s = spells_end g w q f (g.arity q) m j s.2

-- so one list of trees does not end at two places
pub spells_once : (g : Grammar) (w : List ℕ) (p : ℕ) (f : Forest) (d i j k : ℕ) → Spells g w p f d i j → Spells g w p f d i k → j ≡ k
spells_once g w p f d i j k a b = spells_end g w p f d i j a ∙ sym (spells_end g w p f d i k b)

-- ---- the text between two places

slice_append : (w : List ℕ) (i m j : ℕ) → i ≤ m → m ≤ j → j ≤ length w → slice i m w ++ slice m j w ≡ slice i j w
slice_append w i m j l h k =
    let whole : take m w ++ drop m (take j w) ≡ take j w = ap (λ (t : List ℕ). t ++ drop m (take j w)) (sym (take-take m j w h)) ∙ take-append-drop m (take j w) in
    sym (drop-append-le i (take m w) (drop m (take j w)) (omega (arith, length-take m w))) ∙ ap (λ (t : List ℕ). drop i t) whole

slice_one : (w : List ℕ) (m j : ℕ) → m + 1 ≡ j → j ≤ length w → slice m j w ≡ get_or w m 0 ∷ []
slice_one w m j e l =
    let k : suc m ≡ j = omega arith in
    slice-cons m j w 0 (omega arith) l ∙ ap (λ (t : List ℕ). get_or w m 0 ∷ t) (subst (λ (n : ℕ). slice n j w ≡ []) (sym k) (slice_empty j w))

-- ---- a list of trees spells a part of the text exactly if it is of the grammar and its characters are that part

mutual
  unfolding Spells yield Derived

  pub spells_yield : (g : Grammar) (w : List ℕ) (p : ℕ) (f : Forest) (d i j : ℕ) → Spells g w p f d i j → yields f ≡ slice i j w
  spells_yield g w p none zero i j s = sym (ap (λ (n : ℕ). slice n j w) s.0 ∙ slice_empty j w)
  spells_yield g w p none (suc d) i j s = absurd s
  spells_yield g w p (f ▷ t) zero i j s = absurd s
  spells_yield g w p (f ▷ t) (suc d) i j s =
      let a = spells_rises g w p f d i s.0 s.1 in
      let b = stands_rises g w p d t s.0 j s.2 in
      ap₂ ◌++◌ (spells_yield g w p f d i s.0 s.1) (stands_yield g w p d t s.0 j s.2) ∙ slice_append w i s.0 j a.0 b.0 b.1

  stands_yield : (g : Grammar) (w : List ℕ) (p d : ℕ) (t : Tree) (m j : ℕ) → Stands g w p d t m j → yield t ≡ slice m j w
  stands_yield g w p d (leaf c) m j s = sym (slice_one w m j s.0 s.1 ∙ ap (λ (x : ℕ). x ∷ []) s.2)
  stands_yield g w p d (node q f) m j s = spells_yield g w q f (g.arity q) m j s.2

mutual
  unfolding Spells Derived

  pub spells_derived : (g : Grammar) (w : List ℕ) (p : ℕ) (f : Forest) (d i j : ℕ) → Spells g w p f d i j → Derived g p f d
  spells_derived g w p none zero i j s = tt
  spells_derived g w p none (suc d) i j s = absurd s
  spells_derived g w p (f ▷ t) zero i j s = absurd s
  spells_derived g w p (f ▷ t) (suc d) i j s = (spells_derived g w p f d i s.0 s.1, stands_derived g w p d t s.0 j s.2)

  stands_derived : (g : Grammar) (w : List ℕ) (p d : ℕ) (t : Tree) (m j : ℕ) → Stands g w p d t m j → DerivedAt g p d t
  stands_derived g w p d (leaf c) m j s = s.3
  stands_derived g w p d (node q f) m j s = (s.0, s.1, spells_derived g w q f (g.arity q) m j s.2)

-- the other way: a list of trees of the grammar whose characters stand in the text from i on spells that part
mutual
  unfolding Spells yield Derived

  pub derived_spells : (g : Grammar) (w : List ℕ) (p : ℕ) (f : Forest) (d i j : ℕ) → Derived g p f d → i ≤ j → j ≤ length w → yields f ≡ slice i j w → Spells g w p f d i j
  derived_spells g w p none zero i j s l h e = (omega (arith, ap (length {A = ℕ}) e, length-slice i j w h), h)
  derived_spells g w p none (suc d) i j s l h e = absurd s
  derived_spells g w p (f ▷ t) zero i j s l h e = absurd s
  derived_spells g w p (f ▷ t) (suc d) i j s l h e =
      let m = i + length (yields f) in
      let long : length (yields f) + length (yield t) ≡ j - i = sym (length-append (yields f) (yield t)) ∙ ap (length {A = ℕ}) e ∙ length-slice i j w h in
      let both : yields f ++ yield t ≡ slice i m w ++ slice m j w = e ∙ sym (slice_append w i m j (omega arith) (omega arith) h) in
      let size : length (slice i m w) ≡ length (yields f) = length-slice i m w (omega arith) ∙ omega arith in
      let front = sym (take-append_seam (yields f) (yield t)) ∙ ap (λ (v : List ℕ). take (length (yields f)) v) both ∙ take_at (slice i m w) (slice m j w) (length (yields f)) size in
      let back = sym (drop-append_seam (yields f) (yield t)) ∙ ap (λ (v : List ℕ). drop (length (yields f)) v) both ∙ drop_at (slice i m w) (slice m j w) (length (yields f)) size in
      (m, derived_spells g w p f d i m s.0 (omega arith) (omega arith) front, derived_stands g w p d t m j s.1 (omega arith) h back)

  derived_stands : (g : Grammar) (w : List ℕ) (p d : ℕ) (t : Tree) (m j : ℕ) → DerivedAt g p d t → m ≤ j → j ≤ length w → yield t ≡ slice m j w → Stands g w p d t m j
  derived_stands g w p d (leaf c) m j s l h e =
      let one : 1 ≡ j - m = ap (length {A = ℕ}) e ∙ length-slice m j w h in
      let k : m + 1 ≡ j = omega arith in
      let same : c ≡ get_or w m 0 = ap (λ (v : List ℕ). get_or v 0 0) (e ∙ slice_one w m j k h) in
      (k, h, sym same, s)
  derived_stands g w p d (node q f) m j s l h e = (s.0, s.1, derived_spells g w q f (g.arity q) m j s.2 l h e)
