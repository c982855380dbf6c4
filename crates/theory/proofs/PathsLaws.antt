-- In an only tree no production stands below itself over the same part of the text; so paths downwards are short, and the tree is low.
use Prim.Native.Nat.{ℕ, zero, suc, ◌+◌, ◌-◌, ◌*◌, ◌≤◌, ◌<◌}
use mathlib.Core.Path.{◌≡◌, refl, sym, ◌∙◌, ap, subst, subst₂}
use mathlib.Core.Bool.{Bool, false, true, ◌||◌, or-true}
use mathlib.Core.List.{List}
use mathlib.Core.Logic.{⊎_elim, by_cases}
use native.Mathlib.Omega.{arith}
use native.Mathlib.Decide.{dec_lt}
use native.Mathlib.Nat.{le_refl, mul-le-mul}
use lib.Dec.{eqb}
use lib.ListN.{length}
use borrow.Author.Tests.{eqb-true, eq-eqb}
use Rattle.common.proofs.BelowLaws.{count_small, count_more, count_one}
use Rattle.common.proofs.BoolLaws.{or_cases}
use Rattle.common.specs.Below.{count_below}
use Rattle.theory.proofs.AroundLaws.{nodes, Around, around_none, around_both, around_under}
use Rattle.theory.proofs.SpellsLaws.{spells_rises, stands_rises}
use Rattle.theory.specs.Counts.{Only}
use Rattle.theory.specs.Grammar.{Grammar, Spells, Stands}
use Rattle.theory.specs.Steps.{Wanted, DueWanted}
use Rattle.theory.specs.Paths.{height, heights, Under, last, before, Path, top, down}
use Rattle.theory.specs.Tree.{Tree, leaf, node, Forest, none, ◌▷◌}

-- There is at most one list of trees of production q from i to j.
abbrev Single : Grammar → List ℕ → ℕ → ℕ → ℕ → Type 0
Single g w q i j = (f h : Forest) → Spells g w q f (g.arity q) i j → Spells g w q h (g.arity q) i j → f ≡ h

-- The list f is the only one of production q from i to j.
abbrev pub OnlyTrees : Grammar → List ℕ → ℕ → ℕ → ℕ → Forest → Type 0
OnlyTrees g w q i j = Only (λ (f : Forest). Spells g w q f (g.arity q) i j)

only_single : (g : Grammar) (w : List ℕ) (q i j : ℕ) (f : Forest) → OnlyTrees g w q i j f → Single g w q i j
only_single g w q i j f o h k s r = o.alone h s ∙ sym (o.alone k r)

-- ---- parts of what is single

around_single : (g : Grammar) (w : List ℕ) (p i j q m e : ℕ) → Single g w p i j → Around g w p (g.arity p) i j q m e → Single g w q m e
around_single g w p i j q m e o x f h s r = x.different f h (o (x.plug f) (x.plug h) (x.spelled f s) (x.spelled h r))

-- No production stands below itself from the same place to the same place: putting the whole in its own part would make another, larger one.
not_itself : (g : Grammar) (w : List ℕ) (q m e p i j : ℕ) → Single g w q m e → (x : Around g w q (g.arity q) m e p i j) (y : Around g w p (g.arity p) i j q m e) → 1 ≤ y.extra
    → (h : Forest) → Spells g w q h (g.arity q) m e → ⊥
not_itself g w q m e p i j o x y l h s =
    omega (arith, x.larger (y.plug h), y.larger h, ap nodes (o (x.plug (y.plug h)) h (x.spelled (y.plug h) (y.spelled h s)) s))

-- ---- places along a path

under_rises : (g : Grammar) (w : List ℕ) (p d i j q m e : ℕ) → Under g w p d i j q m e → m ≤ e → (i ≤ m) × (e ≤ j)
under_rises g w p d i j q m e (last {d = d'} f s l b) h = ((spells_rises g w p f d' i m s).0, omega arith)
under_rises g w p d i j q m e (before {d = d'} {k = k} t u s) h =
    let a = under_rises g w p d' i k q m e u h in
    let b = stands_rises g w p d' t k j s in
    (a.0, omega (arith, a.1, b.0))

under_count : (g : Grammar) (w : List ℕ) (p d i j q m e : ℕ) → Under g w p d i j q m e → q < g.count
under_count g w p d i j q m e (last f s l b) = l
under_count g w p d i j q m e (before {d = d'} {k = k} t u s) = under_count g w p d' i k q m e u

-- the productions of a path are productions of the grammar
pub path_count : (g : Grammar) (w : List ℕ) (q₀ i₀ j₀ q m e n : ℕ) → Path g w q₀ i₀ j₀ q m e n → q < g.count
path_count g w q₀ i₀ j₀ q m e n (top l) = l
path_count g w q₀ i₀ j₀ q m e n (down {p = p} {i = i} {j = j} c u) = under_count g w p (g.arity p) i j q m e u

-- a production on a path down from a wanted one is wanted where it starts
module _ (g : Grammar) (w : List ℕ) (wanted : Wanted) (dues : DueWanted g w wanted) where
  under_wanted : (p d i j q m e : ℕ) → p < g.count → d ≤ g.arity p → wanted p i ≡ true → Under g w p d i j q m e → wanted q m ≡ true
  under_wanted p d i j q m e lp ld wp (last {d = d'} f s l b) = dues.due p d' i m f lp (omega arith) wp s q l b
  under_wanted p d i j q m e lp ld wp (before {d = d'} {k = k} t u s) = under_wanted p d' i k q m e lp (omega arith) wp u

  pub path_wanted : (q₀ i₀ j₀ q m e n : ℕ) → wanted q₀ i₀ ≡ true → Path g w q₀ i₀ j₀ q m e n → wanted q m ≡ true
  path_wanted q₀ i₀ j₀ q m e n w₀ (top l) = w₀
  path_wanted q₀ i₀ j₀ q m e n w₀ (down {p = p} {i = i} {j = j} {n = n'} c u) =
      under_wanted p (g.arity p) i j q m e (path_count g w q₀ i₀ j₀ p i j n' c) (le_refl (g.arity p)) (path_wanted q₀ i₀ j₀ p i j n' w₀ c) u

false_or_true : {A : Type 0} (b : Bool) → (b ≡ false → A) → (b ≡ true → A) → A
false_or_true false x y = x refl
false_or_true true x y = y refl

-- ---- the length of a path

-- Along a path of n productions to q from m to e: which productions were seen from m to e, and how often the part of the text got shorter.
record Seen (g : Grammar) (w : List ℕ) (q₀ i₀ j₀ q m e n : ℕ) : Type 0 where
  seen : ℕ → Bool
  here : seen q ≡ true
  above : (x : ℕ) → seen x ≡ true → Around g w q₀ (g.arity q₀) i₀ j₀ x m e × Around g w x (g.arity x) m e q m e
  shorter : ℕ
  places : shorter + e + i₀ ≤ j₀ + m
  few : n ≤ g.count * shorter + count_below g.count seen

module _ (g : Grammar) (w : List ℕ) (q₀ i₀ j₀ : ℕ) (o : Single g w q₀ i₀ j₀) where
  abbrev Step : (p q m e : ℕ) → Type 0
  Step p q m e = Around g w q₀ (g.arity q₀) i₀ j₀ p m e × Around g w p (g.arity p) m e q m e

  -- over a new part of the text, the production itself is seen
  seen_first : (q m e n shorter : ℕ) → q < g.count → Around g w q₀ (g.arity q₀) i₀ j₀ q m e → shorter + e + i₀ ≤ j₀ + m → n ≤ g.count * shorter + 1 → Seen g w q₀ i₀ j₀ q m e n
  seen_first q m e n shorter l x c b =
      record {
        seen = λ k. eqb k q;
        here = eq-eqb q q refl;
        above = λ k y. subst (λ (z : ℕ). Step z q m e) (sym (eqb-true k q y)) (x, around_none g w q m e);
        shorter = shorter;
        places = c;
        few = omega (arith, count_one g.count q l);
      }

  -- over the same part, it is one that was not seen there
  seen_same : (p q m e n : ℕ) → Seen g w q₀ i₀ j₀ p m e n → Under g w p (g.arity p) m e q m e → (h : Forest) → Spells g w q h (g.arity q) m e → Seen g w q₀ i₀ j₀ q m e (suc n)
  seen_same p q m e n s u h r =
      let (x, big) = around_under g w p (g.arity p) m e q m e u in
      let whole = around_both g w q₀ (g.arity q₀) i₀ j₀ p m e q m e (s.above p s.here).0 x in
      false_or_true (s.seen q)
      (λ new. record {
        seen = λ k. s.seen k || eqb k q;
        here = rw (eq-eqb q q refl) (or-true (s.seen q));
        above = λ k y. ⊎_elim
            (λ z. let a = s.above k z in (a.0, around_both g w k (g.arity k) m e p m e q m e a.1 x))
            (λ z. subst (λ (v : ℕ). Step v q m e) (sym (eqb-true k q z)) (whole, around_none g w q m e))
            (or_cases (s.seen k) (eqb k q) y);
        shorter = s.shorter;
        places = s.places;
        few = omega (arith, s.few, count_more g.count s.seen q (under_count g w p (g.arity p) m e q m e u) new);
      })
      (λ old. let a = s.above q old in
      absurd (not_itself g w q m e p m e (around_single g w q₀ i₀ j₀ q m e o a.0) a.1 x big h r))

  seen_shorter : (p i j q m e n : ℕ) → Seen g w q₀ i₀ j₀ p i j n → Under g w p (g.arity p) i j q m e → e + i < j + m → Seen g w q₀ i₀ j₀ q m e (suc n)
  seen_shorter p i j q m e n s u l =
      let (x, big) = around_under g w p (g.arity p) i j q m e u in
      seen_first q m e (suc n) (suc s.shorter) (under_count g w p (g.arity p) i j q m e u)
      (around_both g w q₀ (g.arity q₀) i₀ j₀ p i j q m e (s.above p s.here).0 x)
      (omega (arith, s.places))
      (omega (arith, s.few, count_small g.count s.seen))

  seen_down : (p i j q m e n : ℕ) → Seen g w q₀ i₀ j₀ p i j n → Under g w p (g.arity p) i j q m e → (h : Forest) → Spells g w q h (g.arity q) m e → Seen g w q₀ i₀ j₀ q m e (suc n)
  seen_down p i j q m e n s u h r =
      let a = spells_rises g w q h (g.arity q) m e r in
      let b = under_rises g w p (g.arity p) i j q m e u a.0 in
      by_cases (dec_lt (e + i) (j + m))
      (λ l. seen_shorter p i j q m e n s u l)
      (λ l. let x : i ≡ m = omega (arith, b.0, b.1) in
      let y : j ≡ e = omega (arith, b.0, b.1) in
      seen_same p q m e n
      (subst₂ (λ (z : ℕ) (v : ℕ). Seen g w q₀ i₀ j₀ p z v n) x y s)
      (subst₂ (λ (z : ℕ) (v : ℕ). Under g w p (g.arity p) z v q m e) x y u)
      h r)

  seen_path : (q m e n : ℕ) → Path g w q₀ i₀ j₀ q m e n → (h : Forest) → Spells g w q h (g.arity q) m e → Seen g w q₀ i₀ j₀ q m e n
  seen_path q m e n (top l) h r = seen_first q₀ i₀ j₀ 1 0 l (around_none g w q₀ i₀ j₀) (omega arith) (omega arith)
  seen_path q m e n (down {p = p} {i = i} {j = j} {n = n'} c u) h r =
      let (x, big) = around_under g w p (g.arity p) i j q m e u in
      seen_down p i j q m e n' (seen_path p i j n' c (x.plug h) (x.spelled h r)) u h r

  path_short : (q m e n : ℕ) → Path g w q₀ i₀ j₀ q m e n → (h : Forest) → Spells g w q h (g.arity q) m e → i₀ ≤ j₀ → n ≤ g.count * (j₀ - i₀ + 1)
  path_short q m e n c h r l =
      let s = seen_path q m e n c h r in
      let a = spells_rises g w q h (g.arity q) m e r in
      let k : s.shorter + 1 ≤ j₀ - i₀ + 1 = omega (arith, s.places, a.0) in
      omega (arith, s.few, count_small g.count s.seen, mul-le-mul (le_refl g.count) k)

-- A path down from a production with an only list of trees, to one that has trees there, has at most as many productions as there are productions and places.
pub path_bound : (g : Grammar) (w : List ℕ) (q₀ i₀ j₀ : ℕ) (f : Forest) → OnlyTrees g w q₀ i₀ j₀ f → (q m e n : ℕ) → Path g w q₀ i₀ j₀ q m e n
    → (h : Forest) → Spells g w q h (g.arity q) m e → n ≤ g.count * (length w + 1)
path_bound g w q₀ i₀ j₀ f o q m e n x h r =
    let a = spells_rises g w q₀ f (g.arity q₀) i₀ j₀ o.holds in
    let k : j₀ - i₀ + 1 ≤ length w + 1 = omega (arith, a.0, a.1) in
    omega (arith, path_short g w q₀ i₀ j₀ (only_single g w q₀ i₀ j₀ f o) q m e n x h r a.0, mul-le-mul (le_refl g.count) k)

-- ---- the height of a tree

-- where no path down to a production with trees has more than `most` productions, no tree is higher
module _ (g : Grammar) (w : List ℕ) (q₀ i₀ j₀ most : ℕ)
    (short : (q m e n : ℕ) → Path g w q₀ i₀ j₀ q m e n → (h : Forest) → Spells g w q h (g.arity q) m e → n ≤ most) where
  mutual
    unfolding Spells height

    -- f has the first d arguments of p from i to j; all of them go from a to b
    trees_low : (p a b n : ℕ) → Path g w q₀ i₀ j₀ p a b n → n ≤ most → (f : Forest) (d i j : ℕ) → Spells g w p f d i j
        → ((q m e : ℕ) → Under g w p d i j q m e → Under g w p (g.arity p) a b q m e) → n + heights f ≤ most
    trees_low p a b n c l none d i j s u = omega arith
    trees_low p a b n c l (f ▷ t) zero i j s u = absurd s
    trees_low p a b n c l (f ▷ t) (suc d) i j s u =
        omega (
          arith,
          trees_low p a b n c l f d i s.0 s.1 (λ q m e v. u q m e (before t v s.2)),
          tree_low p a b n c l t d s.0 j s.2 (λ q y z. u q s.0 j (last f s.1 y z)),
        )

    tree_low : (p a b n : ℕ) → Path g w q₀ i₀ j₀ p a b n → n ≤ most → (t : Tree) (d i j : ℕ) → Stands g w p d t i j
        → ((q : ℕ) → q < g.count → g.subs p d q ≡ true → Under g w p (g.arity p) a b q i j) → n + height t ≤ most
    tree_low p a b n c l (leaf x) d i j s u = omega arith
    tree_low p a b n c l (node q f) d i j s u =
        let v = down c (u q s.0 s.1) in
        omega (arith, trees_low q i j (suc n) v (short q i j (suc n) v f s.2) f (g.arity q) i j s.2 (λ r m e x. x))

-- An only tree is no higher than there are productions and places.
pub height_bound : (g : Grammar) (w : List ℕ) (q i j : ℕ) (f : Forest) → q < g.count → OnlyTrees g w q i j f → height (node q f) ≤ g.count * (length w + 1)
unfolding height
height_bound g w q i j f l o =
    let short = path_bound g w q i j f o in
    omega (arith, trees_low g w q i j (g.count * (length w + 1)) short q i j 1 (top l) (short q i j 1 (top l) f o.holds) f (g.arity q) i j o.holds (λ r m e x. x))
