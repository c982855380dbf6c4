-- The executable test for chains is the inductive one.
use Prim.Native.Nat.{ℕ, zero, suc, ◌+◌, ◌<◌}
use mathlib.Core.Path.{◌≡◌, refl, ◌∙◌, subst}
use mathlib.Core.Bool.{Bool, false, true, ◌&&◌, ◌||◌, and-false, or-false}
use mathlib.Core.Logic.{◌⊎◌, inl, inr, ⊎_elim, by_cases}
use native.Mathlib.Omega.{arith}
use native.Mathlib.Decide.{dec_lt}
use native.Mathlib.Numerals.{add-one}
use Rattle.common.proofs.BoolLaws.{or_cases, or_first, or_second, and_both, and_first_true, and_second_true}
use Rattle.priority.specs.Chain.{Chain, link, more, through}

pub chain_append : {r : ℕ → ℕ → Bool} {x y z : ℕ} → Chain r x y → Chain r y z → Chain r x z
chain_append c (link e) = more c e
chain_append c (more d e) = more (chain_append c d) e

pub chain_map : {r s : ℕ → ℕ → Bool} → ((x y : ℕ) → r x y ≡ true → s x y ≡ true) → {x y : ℕ} → Chain r x y → Chain s x y
chain_map f (link {x} {y} e) = link (f x y e)
chain_map f (more {y = y} {z = z} c e) = more (chain_map f c) (f y z e)

module _ (r : ℕ → ℕ → Bool) where
  through_more : (n x y : ℕ) → through r n x y ≡ true → through r (suc n) x y ≡ true
  unfolding through
  through_more n x y e = or_first (through r n x y) (through r n x n && through r n n y) e

  through_link : (n x y : ℕ) → r x y ≡ true → through r n x y ≡ true
  unfolding through
  through_link zero x y e = e
  through_link (suc n) x y e = through_more n x y (through_link n x y e)

  -- what leads to n leads there without passing through n, and so from n
  through_into : (n x : ℕ) → through r (suc n) x n ≡ true → through r n x n ≡ true
  unfolding through
  through_into n x e = ⊎_elim (λ a. a) (λ b. and_first_true (through r n x n) (through r n n n) b) (or_cases (through r n x n) (through r n x n && through r n n n) e)

  through_from : (n z : ℕ) → through r (suc n) n z ≡ true → through r n n z ≡ true
  unfolding through
  through_from n z e = ⊎_elim (λ a. a) (λ b. and_second_true (through r n n n) (through r n n z) b) (or_cases (through r n n z) (through r n n n && through r n n z) e)

  through_join : (n x z : ℕ) → through r n x n ≡ true → through r n n z ≡ true → through r (suc n) x z ≡ true
  unfolding through
  through_join n x z e f = or_second (through r n x z) (through r n x n && through r n n z) (and_both (through r n x n) (through r n n z) e f)

  -- the way from x to y by one more member: without it, or through it
  through_cases : (n x y : ℕ) → through r (suc n) x y ≡ true → (through r n x y ≡ true) ⊎ ((through r n x n ≡ true) × (through r n n y ≡ true))
  unfolding through
  through_cases n x y e =
      ⊎_elim (λ a. inl a) (λ b. inr (and_first_true (through r n x n) (through r n n y) b, and_second_true (through r n x n) (through r n n y) b))
      (or_cases (through r n x y) (through r n x n && through r n n y) e)

  pub through_next : (n x y : ℕ) → through r (n + 1) x y ≡ (through r n x y || through r n x n && through r n n y)
  unfolding through
  through_next n x y = rw add-one refl

  -- a member from which nothing leads on
  pub through_same : (n x y : ℕ) → through r n n y ≡ false → through r (n + 1) x y ≡ through r n x y
  through_same n x y e = through_next n x y ∙ rw (e, and-false) (or-false (through r n x y))

  -- two ways that meet below n are one
  through_trans : (n x y z : ℕ) → y < n → through r n x y ≡ true → through r n y z ≡ true → through r n x z ≡ true
  through_trans zero x y z h e f = absurd (omega arith)
  through_trans (suc n) x y z h e f =
      by_cases (dec_lt y n)
      (λ l. ⊎_elim
      (λ a. ⊎_elim
      (λ c. through_more n x z (through_trans n x y z l a c))
      (λ d. through_join n x z (through_trans n x y n l a d.0) d.1)
      (through_cases n y z f))
      (λ b. ⊎_elim
      (λ c. through_join n x z b.0 (through_trans n n y z l b.1 c))
      (λ d. through_join n x z b.0 d.1)
      (through_cases n y z f))
      (through_cases n x y e))
      (λ m. let q : y ≡ n = omega arith in
      through_join n x z
      (through_into n x (subst (λ (k : ℕ). through r (suc n) x k ≡ true) q e))
      (through_from n z (subst (λ (k : ℕ). through r (suc n) k z ≡ true) q f)))

  pub through_chain : (n x y : ℕ) → through r n x y ≡ true → Chain r x y
  unfolding through
  through_chain zero x y e = link e
  through_chain (suc n) x y e =
      ⊎_elim (λ a. through_chain n x y a) (λ b. chain_append (through_chain n x n b.0) (through_chain n n y b.1)) (through_cases n x y e)

  -- a relation among the numbers below n
  pub chain_through : (n : ℕ) → ((x y : ℕ) → r x y ≡ true → x < n) → {x y : ℕ} → Chain r x y → through r n x y ≡ true
  chain_through n below (link {x} {y} e) = through_link n x y e
  chain_through n below (more {x} {y} {z} c e) = through_trans n x y z (below y z e) (chain_through n below c) (through_link n y z e)
