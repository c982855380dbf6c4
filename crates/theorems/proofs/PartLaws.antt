-- Two trees of one text (02, [5]): if they differ, their listings first part at two productions of one result.
use Prim.Native.Nat.{ℕ, zero, suc, ◌<◌}
use mathlib.Core.Path.{◌≡◌, refl, sym, ◌∙◌, ap, subst}
use mathlib.Core.Bool.{false, true}
use mathlib.Core.List.{List, [], ◌∷◌, ◌++◌, append_assoc, append_cancel_left, head-eq_of_cons-eq}
use mathlib.Core.Logic.{◌⊎◌, inl, inr, ⊎_elim, by_cases}
use native.Mathlib.Omega.{arith}
use native.Mathlib.Decide.{ℕ_discrete, dec_lt}
use Rattle.classes.specs.Classes.{is_class}
use Rattle.common.proofs.BoolLaws.{true_or_false, not_both}
use Rattle.engine.specs.Outcome.{Answered}
use Rattle.engine.specs.declared.Answer.TheVariants.{Several}
use Rattle.flatten.specs.Reading.{Reading}
use Rattle.flatten.specs.Trees.{Built, Arguments}
use Rattle.grammar.proofs.ArgumentLaws.{sort_no_class}
use Rattle.grammar.proofs.EqualLaws.{equal_sym}
use Rattle.grammar.specs.Check.{same_production}
use Rattle.grammar.specs.Formed.{WellFormed}
use Rattle.refusal.specs.Verdict.{accepted}
use Rattle.layout.specs.Layout.{productions, start_sort, argument_count, result_sort, argument}
use Rattle.parse.specs.Outcome.{Outcome}
use Rattle.priority.proofs.CheckLaws.{accepted_formed}
use Rattle.priority.specs.Check.{checked}
use Rattle.theorems.proofs.AnsweredLaws.{answered_parts}
use Rattle.theorems.specs.Theorems.{Part}
use Rattle.theory.specs.Tree.{Tree, leaf, node, Forest, none, ◌▷◌, production_number, yield, yields, listing, listings}

-- ---- listings that part

module _ (b l m : List ℕ) (h : Part b l m) where
  -- what stands before both changes nothing
  part_behind : (front : List ℕ) → Part b (front ++ l) (front ++ m)
  part_behind front =
      let (same, p, q, at) = h in
      let shifted : (rest : List ℕ) (n : ℕ) (k : List ℕ) → k ≡ same ++ (n ∷ rest) → front ++ k ≡ (front ++ same) ++ (n ∷ rest) =
      λ rest n k e. ap (λ (v : List ℕ). front ++ v) e ∙ sym (append_assoc front same (n ∷ rest)) in
      let (rest, own) = at.own in
      let (rest', other) = at.other in (
        front ++ same,
        p,
        q,
        record {
          own = (rest, shifted rest (production_number p) l own);
          other = (rest', shifted rest' (production_number q) m other);
          there = at.there;
          one_result = at.one_result;
          not_equal = at.not_equal;
        },
      )

  -- nor does what stands behind each
  part_before : (r s : List ℕ) → Part b (l ++ r) (m ++ s)
  part_before r s =
      let (same, p, q, at) = h in
      let longer : (rest : List ℕ) (n : ℕ) (k more : List ℕ) → k ≡ same ++ (n ∷ rest) → k ++ more ≡ same ++ (n ∷ (rest ++ more)) =
      λ rest n k more e. ap (λ (v : List ℕ). v ++ more) e ∙ append_assoc same (n ∷ rest) more in
      let (rest, own) = at.own in
      let (rest', other) = at.other in (
        same,
        p,
        q,
        record {
          own = (rest ++ r, longer rest (production_number p) l r own);
          other = (rest' ++ s, longer rest' (production_number q) m s other);
          there = at.there;
          one_result = at.one_result;
          not_equal = at.not_equal;
        },
      )

module _ (b : List ℕ) (w : WellFormed b) where
  -- different productions of a grammar are not equal
  not_equal : (p q : ℕ) → p < productions b → q < productions b → (p ≡ q → ⊥) → same_production b p q ≡ false
  not_equal p q lp lq n =
      by_cases (dec_lt q p)
      (λ l. w.different p q lp l)
      (λ l. ⊎_elim
      (λ e. not_both (same_production b q p) (equal_sym b p q e) (w.different q p lq (by_cases (dec_lt p q) (λ k. k) (λ k. absurd (n (omega arith))))))
      (λ e. e)
      (true_or_false (same_production b p q)))

  -- a class is no result
  no_class_lem : (x q : ℕ) → is_class b x ≡ true → q < productions b → result_sort b q ≡ x → ⊥
  no_class_lem x q c l e = not_both (is_class b x) c (sort_no_class b w x (omega (arith, w.result_named q l)))

  -- roots that differ
  part_roots : (p q : ℕ) (f g : Forest) → p < productions b → q < productions b → result_sort b p ≡ result_sort b q → (p ≡ q → ⊥) → Part b (listing (node p f)) (listing (node q g))
  unfolding listing
  part_roots p q f g lp lq e n = (
    [],
    p,
    q,
    record {
      own = (listings f, refl);
      other = (listings g, refl);
      there = (lp, lq);
      one_result = e;
      not_equal = not_equal p q lp lq n;
    },
  )

  -- under one root
  part_below : (p q : ℕ) (f g : Forest) → p ≡ q → Part b (listings f) (listings g) → Part b (listing (node p f)) (listing (node q g))
  unfolding listing
  part_below p q f g same part =
      subst (λ (n : ℕ). Part b (production_number p ∷ listings f) (production_number n ∷ listings g)) same
      (part_behind b (listings f) (listings g) part (production_number p ∷ []))

  -- Trees at one argument byte, and lists of trees for the arguments of one production, over texts that begin alike.
  mutual
    unfolding Built yield listing

    pub trees_part : (x : ℕ) (t u : Tree) (r s : List ℕ) → Built b x t → Built b x u → yield t ++ r ≡ yield u ++ s → (t ≡ u) ⊎ Part b (listing t) (listing u)
    trees_part x (leaf c) (leaf d) r s h k e = inl (ap leaf (head-eq_of_cons-eq e))
    trees_part x (leaf c) (node q g) r s h k e = absurd (no_class_lem x q h.0 k.0 k.1)
    trees_part x (node p f) (leaf d) r s h k e = absurd (no_class_lem x p k.0 h.0 h.1)
    trees_part x (node p f) (node q g) r s h k e =
        elim (ℕ_discrete p q) [
          | yes same ↦ ⊎_elim
              (λ trees. inl (λ i. node (same i) (trees i)))
              (λ part. inr (part_below p q f g same part))
              (lists_part q f g (argument_count b q) r s (subst (λ (n : ℕ). Arguments b n f (argument_count b n)) same h.2) k.2 e)
          | no n ↦ inr (part_roots p q f g h.0 k.0 (h.1 ∙ sym k.1) n)
        ]

    lists_part : (p : ℕ) (f g : Forest) (d : ℕ) (r s : List ℕ) → Arguments b p f d → Arguments b p g d → yields f ++ r ≡ yields g ++ s → (f ≡ g) ⊎ Part b (listings f) (listings g)
    lists_part p none none d r s h k e = inl refl
    lists_part p none (g ▷ u) zero r s h k e = absurd k
    lists_part p none (g ▷ u) (suc d) r s h k e = absurd h
    lists_part p (f ▷ t) g zero r s h k e = absurd h
    lists_part p (f ▷ t) none (suc d) r s h k e = absurd k
    lists_part p (f ▷ t) (g ▷ u) (suc d) r s h k e =
        let moved = sym (append_assoc (yields f) (yield t) r) ∙ e ∙ append_assoc (yields g) (yield u) s in
        ⊎_elim
        (λ lists.
        let after : yield t ++ r ≡ yield u ++ s = append_cancel_left (yields g) (yield t ++ r) (yield u ++ s) (subst (λ (j : Forest). yields j ++ (yield t ++ r) ≡ yields g ++ (yield u ++ s)) lists moved) in
        ⊎_elim
        (λ trees. inl (λ i. lists i ▷ trees i))
        (λ part. inr (subst (λ (j : Forest). Part b (listings f ++ listing t) (listings j ++ listing u)) lists (part_behind b (listing t) (listing u) part (listings f))))
        (trees_part (argument b p d) t u r s h.1 k.1 after))
        (λ part. inr (part_before b (listings f) (listings g) part (listing t) (listing u)))
        (lists_part p f g d (yield t ++ r) (yield u ++ s) h.0 k.0 moved)

-- the readings of a text
module _ (b : List ℕ) (e : checked b ≡ accepted) (w : List ℕ) where
  pub readings_part : (t u : Tree) → Reading b w t → Reading b w u → (t ≡ u → ⊥) → Part b (listing t) (listing u)
  readings_part t u h k n =
      ⊎_elim
      (λ same. absurd (n same))
      (λ part. part)
      (trees_part b (accepted_formed b e) (start_sort b) t u [] [] h.built k.built (ap (λ (v : List ℕ). v ++ []) (h.spells ∙ sym k.spells)))

-- and so whoever gets "several" has two that part
pub several_part : (b w c₀ l₀ : List ℕ) (c l : List ℕ) → Outcome b w c₀ l₀ Several c l → (t : Tree) × (u : Tree) × Reading b w t × Reading b w u × Part b (listing t) (listing u)
unfolding Answered
several_part b w c₀ l₀ c l outcome =
    let (good, _, answered) = answered_parts b w c₀ l₀ Several c l (λ x e. let z : ◌≡◌ {A = ℕ} 0 1 = cc in absurd (omega arith)) outcome in
    let (t, u, h, k, n) = answered.0 in
    (t, u, h, k, readings_part b good w t u h k n)
