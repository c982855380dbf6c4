-- What a closed chart misses of what is wanted: nothing. Every list of trees, of any size, is counted; and where an entry is at most 1 there is at most one.
use Prim.Native.Nat.{ℕ, zero, suc, ◌+◌, ◌-◌, ◌*◌, ◌≤◌, ◌<◌}
use mathlib.Core.Path.{◌≡◌, refl, sym, ◌∙◌, ap, ap₂, subst, subst⁻¹, subst₂}
use mathlib.Core.Bool.{Bool, false, true, ◌&&◌, false≢true}
use mathlib.Core.List.{List}
use mathlib.Core.Logic.{by_cases}
use native.Mathlib.Omega.{arith}
use native.Mathlib.Decide.{dec_lt}
use native.Mathlib.Nat.{le_refl}
use native.Mathlib.Numerals.{add-one}
use lib.Dec.{eqb}
use lib.ListN.{length, get_or}
use borrow.Author.Tests.{eq-eqb}
use Rattle.common.proofs.BelowLaws.{sum_at, sum_pair}
use Rattle.common.proofs.BoolLaws.{and_both}
use Rattle.common.proofs.ProductLaws.{one_product, left_below, right_below}
use Rattle.common.specs.Below.{sum_below, bit_of}
use Rattle.theory.proofs.SpellsLaws.{spells_rises, stands_rises}
use Rattle.theory.specs.Grammar.{Grammar, Spells, Stands}
use Rattle.theory.specs.Steps.{Chart, cap, char_entry, argument_sum, split_sum, Wanted, everything, NextWanted, DueWanted, Closed}
use Rattle.theory.specs.Tree.{Tree, leaf, node, Forest, none, ◌▷◌}

pub meets : {a b : ℕ} → (a < b → ⊥) → (b < a → ⊥) → a ≡ b
meets {a} {b} f h = by_cases (dec_lt a b) (λ l. absurd (f l)) (λ p. by_cases (dec_lt b a) (λ l. absurd (h l)) (λ q. omega arith))

pub true_bit : (v : Bool) → v ≡ true → 1 ≤ bit_of v
true_bit true e = omega arith
true_bit false e = absurd (false≢true e)

-- where everything is wanted, what is due next is
pub everything_due : (g : Grammar) (w : List ℕ) → DueWanted g w everything
everything_due g w = record { due = λ p d i m f lp ld wp s q l e. refl }

module _ (g : Grammar) (w : List ℕ) (wanted : Wanted) (dues : DueWanted g w wanted) (c : Chart) (closed : Closed g w wanted c) where
  -- ---- what counts towards a sum

  abbrev sub : ℕ → ℕ → ℕ → ℕ → ℕ → ℕ
  sub p d m j q = bit_of (g.subs p d q) * c q (g.arity q) m j

  abbrev part : ℕ → ℕ → ℕ → ℕ → ℕ → ℕ
  part p d i j k = c p d i (i + k) * argument_sum g w c p d (i + k) j

  char_counts : (p d m j : ℕ) → m + 1 ≡ j → g.chars p d (get_or w m 0) ≡ true → 1 ≤ char_entry g w p d m j
  unfolding char_entry
  char_counts p d m j e h = true_bit (eqb (m + 1) j && g.chars p d (get_or w m 0)) (and_both (eqb (m + 1) j) (g.chars p d (get_or w m 0)) (eq-eqb (m + 1) j e) h)

  sub_counts : (p d m j q : ℕ) → g.subs p d q ≡ true → 1 ≤ c q (g.arity q) m j → 1 ≤ sub p d m j q
  sub_counts p d m j q e h = one_product (bit_of (g.subs p d q)) (c q (g.arity q) m j) (true_bit (g.subs p d q) e) h

  sub_in : (p d m j q : ℕ) → q < g.count → char_entry g w p d m j + sub p d m j q ≤ argument_sum g w c p d m j
  unfolding argument_sum
  sub_in p d m j q l = omega (arith, sum_at (sub p d m j) g.count q l)

  subs_in : (p d m j q r : ℕ) → q < r → r < g.count → sub p d m j q + sub p d m j r ≤ argument_sum g w c p d m j
  unfolding argument_sum
  subs_in p d m j q r l h = omega (arith, sum_pair (sub p d m j) g.count q r l h)

  char_in : (p d m j : ℕ) → char_entry g w p d m j ≤ argument_sum g w c p d m j
  unfolding argument_sum
  char_in p d m j = omega arith

  -- the split at m counts towards the entry
  part_at : (p d i j m : ℕ) → i ≤ m → m ≤ j → c p d i m * argument_sum g w c p d m j ≤ split_sum g w c p d i j
  unfolding split_sum
  part_at p d i j m l h =
      let e : i + (m - i) ≡ m = omega arith in
      subst (λ (k : ℕ). c p d i k * argument_sum g w c p d k j ≤ sum_below (j - i + 1) (part p d i j)) e
      (sum_at (part p d i j) (j - i + 1) (m - i) (omega arith))

  part_pair : (p d i j m n : ℕ) → i ≤ m → m < n → n ≤ j
      → c p d i m * argument_sum g w c p d m j + c p d i n * argument_sum g w c p d n j ≤ split_sum g w c p d i j
  unfolding split_sum
  part_pair p d i j m n l h o =
      let e : i + (m - i) ≡ m = omega arith in
      let f : i + (n - i) ≡ n = omega arith in
      subst₂ (λ (k k' : ℕ). c p d i k * argument_sum g w c p d k j + c p d i k' * argument_sum g w c p d k' j ≤ sum_below (j - i + 1) (part p d i j)) e f
      (sum_pair (part p d i j) (j - i + 1) (m - i) (n - i) (omega arith) (omega arith))

  next : (p d i j : ℕ) → p < g.count → suc d ≤ g.arity p → i ≤ j → j ≤ length w → wanted p i ≡ true → cap (split_sum g w c p d i j) ≤ c p (suc d) i j
  next p d i j lp ld l h wp = subst (λ (n : ℕ). cap (split_sum g w c p d i j) ≤ c p n i j) (add-one d) (closed.step p d i j lp ld l h wp)

  -- ---- a list of trees that exists is counted

  mutual
    unfolding Spells

    pub spells_counted : (p : ℕ) (f : Forest) (d i j : ℕ) → p < g.count → d ≤ g.arity p → wanted p i ≡ true → Spells g w p f d i j → 1 ≤ c p d i j
    spells_counted p none zero i j lp ld wp s = subst (λ (k : ℕ). 1 ≤ c p 0 i k) s.0 (closed.empty p i lp (omega (arith, s.0, s.1)) wp)
    spells_counted p none (suc d) i j lp ld wp s = absurd s
    spells_counted p (f ▷ t) zero i j lp ld wp s = absurd s
    spells_counted p (f ▷ t) (suc d) i j lp ld wp s =
        let m = s.0 in
        let a = spells_rises g w p f d i m s.1 in
        let b = stands_rises g w p d t m j s.2 in
        let one = one_product (c p d i m) (argument_sum g w c p d m j) (spells_counted p f d i m lp (omega arith) wp s.1) (stands_counted p d t m j (dues.due p d i m f lp ld wp s.1) s.2) in
        omega (arith, one, part_at p d i j m a.0 b.0, next p d i j lp ld (omega (arith, a.0, b.0)) b.1 wp)

    pub stands_counted : (p d : ℕ) (t : Tree) (m j : ℕ) → NextWanted g wanted p d m → Stands g w p d t m j → 1 ≤ argument_sum g w c p d m j
    stands_counted p d (leaf x) m j all s =
        omega (arith, char_in p d m j, char_counts p d m j s.0 (subst⁻¹ (λ (k : ℕ). g.chars p d k ≡ true) s.2 s.3))
    stands_counted p d (node q f) m j all s =
        omega (arith, sub_in p d m j q s.0, sub_counts p d m j q s.1 (spells_counted q f (g.arity q) m j s.0 (le_refl (g.arity q)) (all q s.0 s.1) s.2))

  -- ---- where an entry is at most 1 there is one list of trees

  -- two splits, or one split with a factor above 1, would count for 2
  module _ (p d i j m : ℕ) (lp : p < g.count) (ld : suc d ≤ g.arity p) (wp : wanted p i ≡ true) (im : i ≤ m) (mj : m ≤ j) (jw : j ≤ length w)
      (a : 1 ≤ c p d i m) (b : 1 ≤ argument_sum g w c p d m j) (one : c p (suc d) i j ≤ 1) where
    product_small : c p d i m * argument_sum g w c p d m j ≤ 1
    product_small = omega (arith, part_at p d i j m im mj, next p d i j lp ld (omega arith) jw wp)

    front_small : c p d i m ≤ 1
    front_small = omega (arith, product_small, left_below (c p d i m) (argument_sum g w c p d m j) b)

    argument_small : argument_sum g w c p d m j ≤ 1
    argument_small = omega (arith, product_small, right_below (c p d i m) (argument_sum g w c p d m j) a)

    no_later_split : (n : ℕ) → m < n → n ≤ j → 1 ≤ c p d i n → 1 ≤ argument_sum g w c p d n j → ⊥
    no_later_split n l h u v =
        omega (
          arith,
          part_pair p d i j m n im l h,
          next p d i j lp ld (omega arith) jw wp,
          one_product (c p d i m) (argument_sum g w c p d m j) a b,
          one_product (c p d i n) (argument_sum g w c p d n j) u v,
        )

  -- two arguments that may stand at one place count for 2
  module _ (p d m j : ℕ) (one : argument_sum g w c p d m j ≤ 1) where
    no_two_subs : (q r : ℕ) → q < r → r < g.count → 1 ≤ sub p d m j q → 1 ≤ sub p d m j r → ⊥
    no_two_subs q r l h a b = omega (arith, subs_in p d m j q r l h)

    not_both_kinds : (q : ℕ) → q < g.count → 1 ≤ char_entry g w p d m j → 1 ≤ sub p d m j q → ⊥
    not_both_kinds q l a b = omega (arith, sub_in p d m j q l)

    sub_small : (q : ℕ) → q < g.count → g.subs p d q ≡ true → c q (g.arity q) m j ≤ 1
    sub_small q l e =
        omega (arith, sub_in p d m j q l, right_below (bit_of (g.subs p d q)) (c q (g.arity q) m j) (true_bit (g.subs p d q) e))

  -- what a tree counts for, by its root
  leaf_counts : (p d x m j : ℕ) → Stands g w p d (leaf x) m j → 1 ≤ char_entry g w p d m j
  unfolding Spells
  leaf_counts p d x m j s = char_counts p d m j s.0 (subst⁻¹ (λ (k : ℕ). g.chars p d k ≡ true) s.2 s.3)

  node_counts : (p d q : ℕ) (f : Forest) (m j : ℕ) → NextWanted g wanted p d m → Stands g w p d (node q f) m j → 1 ≤ sub p d m j q
  unfolding Spells
  node_counts p d q f m j all s = sub_counts p d m j q s.1 (spells_counted q f (g.arity q) m j s.0 (le_refl (g.arity q)) (all q s.0 s.1) s.2)

  mutual
    unfolding Spells

    pub spells_same : (p : ℕ) (f h : Forest) (d i j : ℕ) → p < g.count → d ≤ g.arity p → wanted p i ≡ true → c p d i j ≤ 1 → Spells g w p f d i j → Spells g w p h d i j → f ≡ h
    spells_same p none none zero i j lp ld wp one s r = refl
    spells_same p none (h ▷ u) zero i j lp ld wp one s r = absurd r
    spells_same p none h (suc d) i j lp ld wp one s r = absurd s
    spells_same p (f ▷ t) h zero i j lp ld wp one s r = absurd s
    spells_same p (f ▷ t) none (suc d) i j lp ld wp one s r = absurd r
    spells_same p (f ▷ t) (h ▷ u) (suc d) i j lp ld wp one s r =
        let m = s.0 in
        let n = r.0 in
        let a = spells_rises g w p f d i m s.1 in
        let b = stands_rises g w p d t m j s.2 in
        let a' = spells_rises g w p h d i n r.1 in
        let b' = stands_rises g w p d u n j r.2 in
        let cf = spells_counted p f d i m lp (omega arith) wp s.1 in
        let all = dues.due p d i m f lp ld wp s.1 in
        let ct = stands_counted p d t m j all s.2 in
        let ch = spells_counted p h d i n lp (omega arith) wp r.1 in
        let cu = stands_counted p d u n j (dues.due p d i n h lp ld wp r.1) r.2 in
        let e : m ≡ n = meets
        (λ l. no_later_split p d i j m lp ld wp a.0 b.0 b.1 cf ct one n l b'.0 ch cu)
        (λ l. no_later_split p d i j n lp ld wp a'.0 b'.0 b'.1 ch cu one m l b.0 cf ct) in
        let fs = spells_same p f h d i m lp (omega arith) wp (front_small p d i j m lp ld wp a.0 b.0 b.1 cf ct one) s.1 (subst⁻¹ (λ (k : ℕ). Spells g w p h d i k) e r.1) in
        let ts = stands_same p d t u m j all (argument_small p d i j m lp ld wp a.0 b.0 b.1 cf ct one) s.2 (subst⁻¹ (λ (k : ℕ). Stands g w p d u k j) e r.2) in
        ap₂ ◌▷◌ fs ts

    pub stands_same : (p d : ℕ) (t u : Tree) (m j : ℕ) → NextWanted g wanted p d m → argument_sum g w c p d m j ≤ 1 → Stands g w p d t m j → Stands g w p d u m j → t ≡ u
    stands_same p d (leaf x) (leaf y) m j all one s r = ap leaf (sym s.2 ∙ r.2)
    stands_same p d (leaf x) (node q h) m j all one s r = absurd (not_both_kinds p d m j one q r.0 (leaf_counts p d x m j s) (node_counts p d q h m j all r))
    stands_same p d (node q f) (leaf y) m j all one s r = absurd (not_both_kinds p d m j one q s.0 (leaf_counts p d y m j r) (node_counts p d q f m j all s))
    stands_same p d (node q f) (node v h) m j all one s r =
        let e : q ≡ v = meets
        (λ l. no_two_subs p d m j one q v l r.0 (node_counts p d q f m j all s) (node_counts p d v h m j all r))
        (λ l. no_two_subs p d m j one v q l s.0 (node_counts p d v h m j all r) (node_counts p d q f m j all s)) in
        let r' = subst⁻¹ (λ (k : ℕ). Spells g w k h (g.arity k) m j) e r.2 in
        ap₂ node e (spells_same q f h (g.arity q) m j s.0 (le_refl (g.arity q)) (all q s.0 s.1) (sub_small p d m j one q s.0 s.1) s.2 r')
