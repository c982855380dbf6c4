-- Counts determine the number; and a chart that is sound and closed counts the lists of trees of each wanted entry, and the parses.
use Prim.Native.Nat.{ℕ, zero, suc, ◌*◌, ◌≤◌, ◌<◌}
use mathlib.Core.Path.{◌≡◌, refl, sym, ◌∙◌, ap₂, subst⁻¹}
use mathlib.Core.Bool.{Bool, true}
use mathlib.Core.List.{List}
use mathlib.Core.Logic.{◌↔◌, ⊎_elim, by_cases}
use native.Mathlib.Omega.{arith}
use native.Mathlib.Decide.{dec_lt}
use native.Mathlib.Nat.{le_refl}
use lib.ListN.{length}
use lib.Seq.{take-length}
use Rattle.common.proofs.BelowLaws.{sum_one, sum_two, sum_at, sum_pair, bit_one, bit_small}
use Rattle.common.proofs.ProductLaws.{product_one, product_two, one_product, right_below}
use Rattle.common.specs.Below.{bit_of}
use Rattle.theory.proofs.ClosedLaws.{meets, true_bit, spells_counted, spells_same}
use Rattle.theory.proofs.SoundLaws.{node_forest, node_number}
use Rattle.theory.proofs.SpellsLaws.{spells_yield, spells_derived, derived_spells}
use Rattle.theory.specs.Counts.{Two, Counts}
use Rattle.theory.specs.Grammar.{Grammar, Spells, Parse}
use Rattle.theory.specs.Steps.{Chart, cap, Wanted, DueWanted, Sound, Closed, root_sum}
use Rattle.theory.specs.Tree.{Tree, leaf, node, Forest}

-- ---- counts

-- The same by bounds: v things can be shown, and no more are there.
pub record Bounds {A : Type 0} (P : A → Type 0) (v : ℕ) : Type 0 where
  pub at_most_two : v ≤ 2
  -- at least v
  pub one : 1 ≤ v → (x : A) × P x
  pub two : 2 ≤ v → Two P
  -- at most v
  pub some : (x : A) → P x → 1 ≤ v
  pub same : v ≤ 1 → (x y : A) → P x → P y → x ≡ y

pub counts_bounds : {A : Type 0} (P : A → Type 0) (v : ℕ) → Counts P v → Bounds P v
unfolding Counts
counts_bounds P zero a =
    record { at_most_two = omega arith; one = λ h. absurd (omega arith); two = λ h. absurd (omega arith); some = λ x p. absurd (a x p); same = λ h x y p q. absurd (a x p) }
counts_bounds P (suc zero) (x, a) =
    record {
      at_most_two = omega arith;
      one = λ h. (x, a.holds);
      two = λ h. absurd (omega arith);
      some = λ y p. le_refl 1;
      same = λ h y z p q. a.alone y p ∙ sym (a.alone z q);
    }
counts_bounds P (suc (suc zero)) a =
    record { at_most_two = le_refl 2; one = λ h. (a.0, a.2); two = λ h. a; some = λ x p. omega arith; same = λ h. absurd (omega arith) }
counts_bounds P (suc (suc (suc v))) a = absurd a

pub bounds_counts : {A : Type 0} (P : A → Type 0) (v : ℕ) → Bounds P v → Counts P v
unfolding Counts
bounds_counts P zero a = λ x p. omega (arith, a.some x p)
bounds_counts P (suc zero) a = let t = a.one (le_refl 1) in (t.0, record { holds = t.1; alone = λ y p. a.same (le_refl 1) y t.0 p t.1 })
bounds_counts P (suc (suc zero)) a = a.two (le_refl 2)
bounds_counts P (suc (suc (suc v))) a = omega (arith, a.at_most_two)

not_fewer : {A : Type 0} (P : A → Type 0) (u v : ℕ) → Bounds P u → Bounds P v → u < v → ⊥
not_fewer P u v a b l =
    by_cases (dec_lt 1 v)
    (λ h. let t = b.two h in t.4 (a.same (omega (arith, b.at_most_two)) t.0 t.1 t.2 t.3))
    (λ h. let t = b.one (omega arith) in omega (arith, a.some t.0 t.1))

-- a count is one number
pub counts_unique : {A : Type 0} (P : A → Type 0) (u v : ℕ) → Counts P u → Counts P v → u ≡ v
counts_unique P u v a b =
    meets
    (λ l. not_fewer P u v (counts_bounds P u a) (counts_bounds P v b) l)
    (λ l. not_fewer P v u (counts_bounds P v b) (counts_bounds P u a) l)

-- the same count for a predicate that says the same
pub counts_same : {A : Type 0} (P Q : A → Type 0) (v : ℕ) → ((x : A) → P x ↔ Q x) → Counts P v → Counts Q v
unfolding Counts
counts_same P Q zero e a = λ x q. a x ((e x).1 q)
counts_same P Q (suc zero) e (x, a) = (x, record { holds = (e x).0 a.holds; alone = λ y q. a.alone y ((e y).1 q) })
counts_same P Q (suc (suc zero)) e t = (t.0, t.1, (e t.0).0 t.2, (e t.1).0 t.3, t.4)
counts_same P Q (suc (suc (suc v))) e a = a

-- ---- each entry

module _ (g : Grammar) (w : List ℕ) (wanted : Wanted) (dues : DueWanted g w wanted) (c : Chart) (sound : Sound g w c) (closed : Closed g w wanted c) where
  pub entry_counts : (p d i j : ℕ) → p < g.count → d ≤ g.arity p → i ≤ j → j ≤ length w → wanted p i ≡ true → c p d i j ≤ 2 → Counts (λ (f : Forest). Spells g w p f d i j) (c p d i j)
  entry_counts p d i j lp ld ij jw wp small =
      bounds_counts (λ (f : Forest). Spells g w p f d i j) (c p d i j)
      (record {
        at_most_two = small;
        one = (sound.shown p d i j lp ld ij jw).one;
        two = (sound.shown p d i j lp ld ij jw).two;
        some = λ f s. spells_counted g w wanted dues c closed p f d i j lp ld wp s;
        same = λ h f k s r. spells_same g w wanted dues c closed p f k d i j lp ld wp h s r;
      })

-- ---- the parses

-- v p is the number of lists of trees for the whole text of a production p that is allowed at the root
module _ (g : Grammar) (w : List ℕ) (roots : ℕ → Bool) (v : ℕ → ℕ)
    (counts : (p : ℕ) → p < g.count → roots p ≡ true → Counts (λ (f : Forest). Spells g w p f (g.arity p) 0 (length w)) (v p)) where
  bounds : (p : ℕ) → p < g.count → roots p ≡ true → Bounds (λ (f : Forest). Spells g w p f (g.arity p) 0 (length w)) (v p)
  bounds p l e = counts_bounds (λ (f : Forest). Spells g w p f (g.arity p) 0 (length w)) (v p) (counts p l e)

  root : ℕ → ℕ
  root p = bit_of (roots p) * v p

  pub parse_of : (p : ℕ) (f : Forest) → p < g.count → roots p ≡ true → Spells g w p f (g.arity p) 0 (length w) → Parse g roots w (node p f)
  unfolding Parse
  parse_of p f l e s = (l, e, spells_derived g w p f (g.arity p) 0 (length w) s, spells_yield g w p f (g.arity p) 0 (length w) s ∙ take-length w)

  spells_of : (p : ℕ) (f : Forest) → Parse g roots w (node p f) → Spells g w p f (g.arity p) 0 (length w)
  unfolding Parse
  spells_of p f s = derived_spells g w p f (g.arity p) 0 (length w) s.2 (omega arith) (le_refl (length w)) (s.3 ∙ sym (take-length w))

  root_one : (p : ℕ) → p < g.count → 1 ≤ root p → (t : Tree) × Parse g roots w t × ((f : Forest) × (t ≡ node p f))
  unfolding root
  root_one p l h =
      let a = product_one (bit_of (roots p)) (v p) h in
      let e = bit_one (roots p) a.0 in
      let s = (bounds p l e).one a.1 in
      (node p s.0, parse_of p s.0 l e s.1, (s.0, refl))

  root_two : (p : ℕ) → p < g.count → 2 ≤ root p → Two (Parse g roots w)
  unfolding root
  root_two p l h =
      ⊎_elim
      (λ a. absurd (omega (arith, a.0, bit_small (roots p))))
      (λ a. let e = bit_one (roots p) a.0 in
      let s = (bounds p l e).two a.1 in
      (node p s.0, node p s.1, parse_of p s.0 l e s.2, parse_of p s.1 l e s.3, λ q. s.4 (node_forest p p s.0 s.1 q)))
      (product_two (bit_of (roots p)) (v p) h)

  two_parses : 2 ≤ root_sum g roots v → Two (Parse g roots w)
  unfolding root_sum root
  two_parses h =
      ⊎_elim
      (λ a. root_two a.0 a.1 a.2)
      (λ a. let s = root_one a.0 (omega (arith, a.2, a.3)) a.4 in
      let r = root_one a.1 a.3 a.5 in (
        s.0,
        r.0,
        s.1,
        r.1,
        λ e. let n = node_number a.0 a.1 s.2.0 r.2.0 (sym s.2.1 ∙ e ∙ r.2.1) in omega (arith, a.2),
      ))
      (sum_two root g.count h)

  first_root : 1 ≤ root_sum g roots v → (p : ℕ) × (p < g.count) × (1 ≤ root p)
  unfolding root_sum root
  first_root h = sum_one root g.count h

  root_counted : (p : ℕ) (f : Forest) → Parse g roots w (node p f) → (p < g.count) × (1 ≤ root p)
  unfolding Parse root
  root_counted p f s = (s.0, one_product (bit_of (roots p)) (v p) (true_bit (roots p) s.1) ((bounds p s.0 s.1).some f (spells_of p f s)))

  some_parse : (t : Tree) → Parse g roots w t → 1 ≤ root_sum g roots v
  unfolding Parse root_sum root
  some_parse (leaf x) s = absurd s
  some_parse (node p f) s = let a = root_counted p f s in omega (arith, sum_at root g.count p a.0)

  pub root_small : (p : ℕ) → p < g.count → roots p ≡ true → root_sum g roots v ≤ 1 → v p ≤ 1
  unfolding root_sum root
  root_small p l e h = omega (arith, sum_at root g.count p l, right_below (bit_of (roots p)) (v p) (true_bit (roots p) e))

  one_root : root_sum g roots v ≤ 1 → (p q : ℕ) → p < q → q < g.count → 1 ≤ root p → 1 ≤ root q → ⊥
  unfolding root_sum root
  one_root h p q l m a b = omega (arith, sum_pair root g.count p q l m)

  same_parse : root_sum g roots v ≤ 1 → (t u : Tree) → Parse g roots w t → Parse g roots w u → t ≡ u
  unfolding Parse
  same_parse h (leaf x) u s r = absurd s
  same_parse h (node p f) (leaf y) s r = absurd r
  same_parse h (node p f) (node q k) s r =
      let a = root_counted p f s in
      let b = root_counted q k r in
      let e : p ≡ q = meets (λ l. one_root h p q l b.0 a.1 b.1) (λ l. one_root h q p l a.0 b.1 a.1) in
      let r' = subst⁻¹ (λ (n : ℕ). Spells g w n k (g.arity n) 0 (length w)) e (spells_of q k r) in
      ap₂ node e ((bounds p s.0 s.1).same (root_small p s.0 s.1 h) f k (spells_of p f s) r')

  -- Parses of every size are counted, and no other.
  pub parse_counts : Counts (Parse g roots w) (cap (root_sum g roots v))
  parse_counts =
      bounds_counts (Parse g roots w) (cap (root_sum g roots v))
      (record {
        at_most_two = omega arith;
        one = λ h. let (p, l, k) = first_root (omega arith) in let s = root_one p l k in (s.0, s.1);
        two = λ h. two_parses (omega arith);
        some = λ t s. omega (arith, some_parse t s);
        same = λ h t u s r. same_parse (omega arith) t u s r;
      })
