-- What a sum shows: a sum of products of numbers that have their lists of trees has its own.
use Prim.Native.Nat.{ℕ, suc, ◌+◌, ◌-◌, ◌*◌, max, ◌≤◌, ◌<◌}
use mathlib.Core.Path.{◌≡◌, refl, subst}
use mathlib.Core.Bool.{◌&&◌}
use mathlib.Core.List.{List}
use mathlib.Core.Logic.{⊎_elim, by_cases}
use native.Mathlib.Omega.{arith}
use native.Mathlib.Decide.{dec_lt}
use lib.Dec.{eqb}
use lib.ListN.{length, get_or}
use borrow.Author.Tests.{eqb-true}
use Rattle.common.proofs.BelowLaws.{sum_one, sum_two, bit_one, bit_small}
use Rattle.common.proofs.BoolLaws.{and_first_true, and_second_true}
use Rattle.common.proofs.ProductLaws.{product_one, product_two}
use Rattle.common.specs.Below.{sum_below, bit_of}
use Rattle.theory.proofs.SpellsLaws.{spells_once}
use Rattle.theory.specs.Counts.{Two, Shown}
use Rattle.theory.specs.Grammar.{Grammar, Spells, Stands}
use Rattle.theory.specs.Steps.{char_entry}
use Rattle.theory.specs.Tree.{Tree, leaf, node, Forest, ◌▷◌}

-- ---- different trees

leaf_not_node : (c q : ℕ) (f : Forest) → leaf c ≡ node q f → ⊥
leaf_not_node c q f e = let z : ◌≡◌ {A = ℕ} 0 1 = cc in omega arith

pub node_forest : (q r : ℕ) (f h : Forest) → node q f ≡ node r h → f ≡ h
node_forest q r f h e = cc

pub node_number : (q r : ℕ) (f h : Forest) → node q f ≡ node r h → q ≡ r
node_number q r f h e = cc

before_last : (f h : Forest) (t u : Tree) → (f ▷ t) ≡ (h ▷ u) → f ≡ h
before_last f h t u e = cc

the_last : (f h : Forest) (t u : Tree) → (f ▷ t) ≡ (h ▷ u) → t ≡ u
the_last f h t u e = cc

-- less is shown where more is
pub shown_less : {A : Type 0} (P : A → Type 0) (u v : ℕ) → u ≤ v → Shown P v → Shown P u
shown_less P u v l s = record { one = λ h. s.one (omega arith); two = λ h. s.two (omega arith) }

-- the larger of two is shown where both are
pub shown_max : {A : Type 0} (P : A → Type 0) (u v : ℕ) → Shown P u → Shown P v → Shown P (max u v)
shown_max P u v s t =
    by_cases (dec_lt u v)
    (λ l. subst (λ (n : ℕ). Shown P n) (omega arith) t)
    (λ l. subst (λ (n : ℕ). Shown P n) (omega arith) s)

-- ---- one argument

module _ (g : Grammar) (w : List ℕ) (p d m j : ℕ) (jw : j ≤ length w) where
  char_one : 1 ≤ char_entry g w p d m j → Stands g w p d (leaf (get_or w m 0)) m j
  unfolding char_entry Spells
  char_one h =
      let e = bit_one (eqb (m + 1) j && g.chars p d (get_or w m 0)) h in (
        eqb-true (m + 1) j (and_first_true (eqb (m + 1) j) (g.chars p d (get_or w m 0)) e),
        jw,
        refl,
        and_second_true (eqb (m + 1) j) (g.chars p d (get_or w m 0)) e,
      )

  char_small : char_entry g w p d m j ≤ 1
  unfolding char_entry
  char_small = bit_small (eqb (m + 1) j && g.chars p d (get_or w m 0))

  -- v q trees of production q can be shown from m to j
  module _ (v : ℕ → ℕ) (shown : (q : ℕ) → q < g.count → Shown (λ (f : Forest). Spells g w q f (g.arity q) m j) (v q)) where
    abbrev sub : ℕ → ℕ
    sub q = bit_of (g.subs p d q) * v q

    sub_one : (q : ℕ) → q < g.count → 1 ≤ sub q → (f : Forest) × Stands g w p d (node q f) m j
    unfolding Spells
    sub_one q l h =
        let a = product_one (bit_of (g.subs p d q)) (v q) h in
        let s = (shown q l).one a.1 in
        (s.0, (l, bit_one (g.subs p d q) a.0, s.1))

    sub_two : (q : ℕ) → q < g.count → 2 ≤ sub q → Two (λ (t : Tree). Stands g w p d t m j)
    unfolding Spells
    sub_two q l h =
        ⊎_elim
        (λ a. absurd (omega (arith, a.0, bit_small (g.subs p d q))))
        (λ a. let s = (shown q l).two a.1 in
        let b = bit_one (g.subs p d q) a.0 in
        (node q s.0, node q s.1, (l, b, s.2), (l, b, s.3), λ e. s.4 (node_forest q q s.0 s.1 e)))
        (product_two (bit_of (g.subs p d q)) (v q) h)

    abbrev arguments : ℕ
    arguments = char_entry g w p d m j + sum_below g.count sub

    one_argument : 1 ≤ arguments → (t : Tree) × Stands g w p d t m j
    one_argument h =
        by_cases (dec_lt 0 (char_entry g w p d m j))
        (λ k. (leaf (get_or w m 0), char_one k))
        (λ k. let (q, o, r) = sum_one sub g.count (omega arith) in
        let s = sub_one q o r in (node q s.0, s.1))

    two_arguments : 2 ≤ arguments → Two (λ (t : Tree). Stands g w p d t m j)
    two_arguments h =
        by_cases (dec_lt 0 (char_entry g w p d m j))
        (λ k. let (q, o, r) = sum_one sub g.count (omega (arith, char_small)) in
        let s = sub_one q o r in
        (leaf (get_or w m 0), node q s.0, char_one k, s.1, leaf_not_node (get_or w m 0) q s.0))
        (λ k. ⊎_elim
        (λ a. sub_two a.0 a.1 a.2)
        (λ a. let s = sub_one a.0 (omega (arith, a.2, a.3)) a.4 in
        let r = sub_one a.1 a.3 a.5 in
        (node a.0 s.0, node a.1 r.0, s.1, r.1, λ e. let x = node_number a.0 a.1 s.0 r.0 e in omega (arith, a.2)))
        (sum_two sub g.count (omega arith)))

    -- as many trees can be shown as may stand as one argument
    pub argument_shown : Shown (λ (t : Tree). Stands g w p d t m j) arguments
    argument_shown = record { one = one_argument; two = two_arguments }

-- ---- one argument more

-- front m lists of trees for the arguments before can be shown from i to m, and back m trees from m to j
module _ (g : Grammar) (w : List ℕ) (p d i j : ℕ) (ij : i ≤ j) (front back : ℕ → ℕ)
    (fronts : (m : ℕ) → i ≤ m → m ≤ j → Shown (λ (f : Forest). Spells g w p f d i m) (front m))
    (backs : (m : ℕ) → i ≤ m → m ≤ j → Shown (λ (t : Tree). Stands g w p d t m j) (back m)) where
  abbrev part : ℕ → ℕ
  part k = front (i + k) * back (i + k)

  part_one : (k : ℕ) → k < j - i + 1 → 1 ≤ part k → (f : Forest) × (t : Tree) × Spells g w p f d i (i + k) × Stands g w p d t (i + k) j
  part_one k l h =
      let a = product_one (front (i + k)) (back (i + k)) h in
      let s = (fronts (i + k) (omega arith) (omega arith)).one a.0 in
      let t = (backs (i + k) (omega arith) (omega arith)).one a.1 in
      (s.0, t.0, s.1, t.1)

  part_two : (k : ℕ) → k < j - i + 1 → 2 ≤ part k → Two (λ (f : Forest). Spells g w p f (suc d) i j)
  unfolding Spells
  part_two k l h =
      ⊎_elim
      (λ a. let s = (fronts (i + k) (omega arith) (omega arith)).two a.0 in
      let t = (backs (i + k) (omega arith) (omega arith)).one a.1 in
      (s.0 ▷ t.0, s.1 ▷ t.0, (i + k, s.2, t.1), (i + k, s.3, t.1), λ e. s.4 (before_last s.0 s.1 t.0 t.0 e)))
      (λ a. let s = (fronts (i + k) (omega arith) (omega arith)).one a.0 in
      let t = (backs (i + k) (omega arith) (omega arith)).two a.1 in
      (s.0 ▷ t.0, s.0 ▷ t.1, (i + k, s.1, t.2), (i + k, s.1, t.3), λ e. t.4 (the_last s.0 s.0 t.0 t.1 e)))
      (product_two (front (i + k)) (back (i + k)) h)

  abbrev splits : ℕ
  splits = sum_below (j - i + 1) part

  one_split : 1 ≤ splits → (f : Forest) × Spells g w p f (suc d) i j
  unfolding Spells
  one_split h =
      let (k, o, r) = sum_one part (j - i + 1) h in
      let s = part_one k o r in
      (s.0 ▷ s.1, (i + k, s.2, s.3))

  two_splits : 2 ≤ splits → Two (λ (f : Forest). Spells g w p f (suc d) i j)
  unfolding Spells
  two_splits h =
      ⊎_elim
      (λ a. part_two a.0 a.1 a.2)
      (λ a. let s = part_one a.0 (omega (arith, a.2, a.3)) a.4 in
      let r = part_one a.1 a.3 a.5 in (
        s.0 ▷ s.1,
        r.0 ▷ r.1,
        (i + a.0, s.2, s.3),
        (i + a.1, r.2, r.3),
        λ e. let same = before_last s.0 r.0 s.1 r.1 e in
            let x = spells_once g w p r.0 d i (i + a.0) (i + a.1) (subst (λ (f : Forest). Spells g w p f d i (i + a.0)) same s.2) r.2 in
            omega (arith, a.2),
      ))
      (sum_two part (j - i + 1) h)

  -- as many lists can be shown as the splits say
  pub splits_shown : Shown (λ (f : Forest). Spells g w p f (suc d) i j) splits
  splits_shown = record { one = one_split; two = two_splits }
