-- In a finite set with an order there is a highest one: above any that a test holds of there is one that it holds of, with none above.
use Prim.Native.Nat.{ℕ, zero, suc, ◌<◌}
use mathlib.Core.Bool.{Bool, true, ◌&&◌, false≢true}
use mathlib.Core.Logic.{◌⊎◌, inl, inr, ⊎_elim}
use mathlib.Core.Path.{◌≡◌, refl, sym, ◌∙◌, subst}
use native.Mathlib.Decide.{ℕ_discrete}
use native.Mathlib.Omega.{arith}
use Rattle.common.proofs.BoolLaws.{and_both, and_first_true, and_second_true, true_or_false}

-- q is p or above it, f holds of it, and of nothing above it that is below n.
pub record HighestFrom (f : ℕ → Bool) (r : ℕ → ℕ → Bool) (n p q : ℕ) : Type 0 where
  pub holds : f q ≡ true
  pub above : (q ≡ p) ⊎ (r q p ≡ true)
  pub highest : (x : ℕ) → x < n → f x ≡ true → r x q ≡ true → ⊥

module _ (f : ℕ → Bool) (r : ℕ → ℕ → Bool) (irreflexive : (x : ℕ) → r x x ≡ true → ⊥) (transitive : (x y z : ℕ) → r x y ≡ true → r y z ≡ true → r x z ≡ true) where
  onward : (p q x : ℕ) → (q ≡ p) ⊎ (r q p ≡ true) → r x q ≡ true → r x p ≡ true
  onward p q x same_or_above h = ⊎_elim (λ e. subst (λ (y : ℕ). r x y ≡ true) e h) (λ e. transitive x q p h e) same_or_above

  -- The numbers are gone through; one that stands above takes the place of the highest so far.
  pub highest_from : (n p : ℕ) → f p ≡ true → (q : ℕ) × HighestFrom f r n p q
  highest_from zero p e = (p, record { holds = e; above = inl refl; highest = λ x l. absurd (omega arith) })
  highest_from (suc n) p e =
      let (q, h) = highest_from n p e in
      ⊎_elim
      (λ t.
      let own = and_first_true (f n) (r n q) t in
      let over = and_second_true (f n) (r n q) t in (
        n,
        record {
          holds = own;
          above = inr (onward p q n h.above over);
          highest = λ x l g k. elim (ℕ_discrete x n) [
            | yes e ↦ irreflexive n (subst (λ (y : ℕ). r y n ≡ true) e k)
            | no e ↦ h.highest x (omega arith) g (transitive x n q k over)
          ];
        },
      ))
      (λ t. (
        q,
        record {
          holds = h.holds;
          above = h.above;
          highest = λ x l g k. elim (ℕ_discrete x n) [
            | yes e ↦ false≢true (sym t ∙ and_both (f n) (r n q) (subst (λ (y : ℕ). f y ≡ true) e g) (subst (λ (y : ℕ). r y q ≡ true) e k))
            | no e ↦ h.highest x (omega arith) g k
          ];
        },
      ))
      (true_or_false (f n && r n q))
