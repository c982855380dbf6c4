-- Laws of sums, tests and counts over the numbers below a bound, and of numbers between two.
use Prim.Native.Nat.{ℕ, zero, suc, ◌+◌, ◌*◌, ◌≤◌, ◌<◌}
use mathlib.Core.Path.{◌≡◌, refl, sym, ◌∙◌, ap, ap₂, subst}
use mathlib.Core.Bool.{Bool, false, true, ◌&&◌, ◌||◌, false≢true, and-false, or-true, or-false}
use mathlib.Core.Logic.{◌≢◌, ◌⊎◌, inl, inr, ⊎_elim, by_cases}
use native.Mathlib.Omega.{arith}
use native.Mathlib.Decide.{ℕ_discrete, dec_lt}
use native.Mathlib.Nat.{le_refl}
use native.Mathlib.Numerals.{add-one}
use lib.Dec.{leb, eqb}
use borrow.Author.Tests.{le-leb, lt-leb, leb-true, eq-eqb, ne_eqb}
use Rattle.common.proofs.BoolLaws.{or_cases, or_first_false, or_second_false, and_both, and_first_true, and_second_true}
use Rattle.common.specs.Below.{sum_below, all_below, any_below, bit_of, count_below, between}

-- ---- sums

pub sum_none : (f : ℕ → ℕ) → sum_below 0 f ≡ 0
unfolding sum_below
sum_none f = refl

pub sum_more : (n : ℕ) (f : ℕ → ℕ) → sum_below (n + 1) f ≡ sum_below n f + f n
unfolding sum_below
sum_more n f = rw add-one refl

pub sum_bound : (m : ℕ) (f : ℕ → ℕ) → ((k : ℕ) → f k ≤ m) → (n : ℕ) → sum_below n f ≤ n * m
unfolding sum_below
sum_bound m f h zero = omega arith
sum_bound m f h (suc n) = omega (arith, h n, sum_bound m f h n)

pub sum_grows : (f : ℕ → ℕ) (m n : ℕ) → m < n → sum_below m f + f m ≤ sum_below n f
unfolding sum_below
sum_grows f m zero h = absurd (omega arith)
sum_grows f m (suc n) h =
    by_cases (dec_lt m n)
    (λ l. omega (arith, sum_grows f m n l))
    (λ k. let e : m ≡ n = omega arith in subst (λ (j : ℕ). sum_below j f + f j ≤ sum_below (suc n) f) (sym e) (le_refl (sum_below n f + f n)))

pub sum_double : (f : ℕ → ℕ) (n : ℕ) → sum_below n (λ k. 2 * f k) ≡ 2 * sum_below n f
unfolding sum_below
sum_double f zero = refl
sum_double f (suc n) = omega (arith, sum_double f n)

-- a sum that is not 0 has a part that is not 0; one of 2 or more has such a part, or two parts
pub sum_one : (f : ℕ → ℕ) (n : ℕ) → 1 ≤ sum_below n f → (i : ℕ) × (i < n) × (1 ≤ f i)
unfolding sum_below
sum_one f zero h = absurd (omega arith)
sum_one f (suc n) h =
    by_cases (dec_lt 0 (f n))
    (λ l. (n, omega arith, l))
    (λ l. let (i, m, k) = sum_one f n (omega arith) in (i, omega arith, k))

pub sum_two : (f : ℕ → ℕ) (n : ℕ) → 2 ≤ sum_below n f
    → ((i : ℕ) × (i < n) × (2 ≤ f i)) ⊎ ((i : ℕ) × (j : ℕ) × (i < j) × (j < n) × (1 ≤ f i) × (1 ≤ f j))
unfolding sum_below
sum_two f zero h = absurd (omega arith)
sum_two f (suc n) h =
    by_cases (dec_lt 1 (f n))
    (λ l. inl (n, omega arith, l))
    (λ l. by_cases (dec_lt 0 (f n))
    (λ k. let (i, m, o) = sum_one f n (omega arith) in inr (i, n, m, omega arith, o, k))
    (λ k. ⊎_elim
    (λ a. inl (a.0, omega (arith, a.1), a.2))
    (λ a. inr (a.0, a.1, a.2, omega (arith, a.3), a.4, a.5))
    (sum_two f n (omega arith))))

pub sum_at : (f : ℕ → ℕ) (n i : ℕ) → i < n → f i ≤ sum_below n f
sum_at f n i l = omega (arith, sum_grows f i n l)

pub sum_pair : (f : ℕ → ℕ) (n i j : ℕ) → i < j → j < n → f i + f j ≤ sum_below n f
sum_pair f n i j l m = omega (arith, sum_grows f i j l, sum_grows f j n m)

pub sum_same : (f g : ℕ → ℕ) (n : ℕ) → ((k : ℕ) → k < n → f k ≡ g k) → sum_below n f ≡ sum_below n g
unfolding sum_below
sum_same f g zero e = refl
sum_same f g (suc n) e = ap₂ ◌+◌ (sum_same f g n (λ k l. e k (omega arith))) (e n (omega arith))

-- summands that agree but in one place
pub sum_change : (f g : ℕ → ℕ) (n q m : ℕ) → q < n → ((k : ℕ) → k < n → k ≢ q → g k ≡ f k) → g q ≡ f q + m → sum_below n g ≡ sum_below n f + m
unfolding sum_below
sum_change f g zero q m l h e = absurd (omega arith)
sum_change f g (suc n) q m l h e =
    elim (ℕ_discrete q n) [
      | yes p ↦ omega (arith, sum_same g f n (λ k i. h k (omega arith) (λ o. omega arith)), subst (λ (k : ℕ). g k ≡ f k + m) p e)
      | no p ↦ omega (arith, sum_change f g n q m (omega arith) (λ k i. h k (omega arith)) e, h n (omega arith) (λ o. p (sym o)))
    ]

-- the first term by itself
pub sum_first : (f : ℕ → ℕ) (n : ℕ) → sum_below (suc n) f ≡ f 0 + sum_below n (λ k. f (suc k))
unfolding sum_below
sum_first f zero = omega arith
sum_first f (suc n) = let e = sum_first f n in omega (arith, e)

-- the first and the last term by themselves
pub sum_ends : (f : ℕ → ℕ) (n : ℕ) → sum_below (n + 2) f ≡ f 0 + sum_below n (λ k. f (1 + k)) + f (n + 1)
sum_ends f n =
    let e : n + 2 ≡ suc n + 1 = omega arith in
    let shift : sum_below n (λ k. f (suc k)) ≡ sum_below n (λ k. f (1 + k)) = sum_same (λ k. f (suc k)) (λ k. f (1 + k)) n (λ k l. ap f (omega arith)) in
    ap (λ (m : ℕ). sum_below m f) e ∙ sum_more (suc n) f ∙ ap₂ ◌+◌ (sum_first f n ∙ ap (λ (m : ℕ). f 0 + m) shift) (ap f (sym (add-one n)))

-- ---- one of them

pub any_none : (f : ℕ → Bool) → any_below 0 f ≡ false
unfolding any_below
any_none f = refl

pub any_more : (f : ℕ → Bool) (i : ℕ) → any_below i f ≡ false → f i ≡ false → any_below (i + 1) f ≡ false
unfolding any_below
any_more f i e h = rw (add-one i, e) h

pub any_next : (f : ℕ → Bool) (i : ℕ) → any_below (i + 1) f ≡ (any_below i f || f i)
unfolding any_below
any_next f i = rw add-one refl

pub any_here : (f : ℕ → Bool) (i n : ℕ) → i < n → f i ≡ true → any_below n f ≡ true
unfolding any_below
any_here f i zero l h = absurd (omega arith)
any_here f i (suc n) l h =
    by_cases (dec_lt i n)
    (λ m. rw (any_here f i n m h) refl)
    (λ m. let q : n ≡ i = omega arith in rw (q, h) (or-true (any_below i f)))

pub any_never : (f : ℕ → Bool) (n : ℕ) → any_below n f ≡ false → (i : ℕ) → i < n → f i ≡ false
unfolding any_below
any_never f zero e i l = absurd (omega arith)
any_never f (suc n) e i l =
    by_cases (dec_lt i n)
    (λ m. any_never f n (or_first_false (any_below n f) (f n) e) i m)
    (λ m. let q : n ≡ i = omega arith in subst (λ (j : ℕ). f j ≡ false) q (or_second_false (any_below n f) (f n) e))

pub any_found : (f : ℕ → Bool) (n : ℕ) → any_below n f ≡ true → (i : ℕ) × (i < n) × (f i ≡ true)
unfolding any_below
any_found f zero e = absurd (false≢true e)
any_found f (suc n) e =
    ⊎_elim
    (λ a. let (i, l, h) = any_found f n a in (i, omega arith, h))
    (λ a. (n, omega arith, a))
    (or_cases (any_below n f) (f n) e)

-- tests that agree below n are met there together
pub any_same : (f g : ℕ → Bool) (n : ℕ) → ((k : ℕ) → k < n → f k ≡ g k) → any_below n f ≡ any_below n g
unfolding any_below
any_same f g zero e = refl
any_same f g (suc n) e = ap₂ ◌||◌ (any_same f g n (λ k l. e k (omega arith))) (e n (omega arith))

-- ---- each of them

pub all_none : (f : ℕ → Bool) → all_below 0 f ≡ true
unfolding all_below
all_none f = refl

pub all_more : (f : ℕ → Bool) (i : ℕ) → all_below i f ≡ true → f i ≡ true → all_below (i + 1) f ≡ true
unfolding all_below
all_more f i e h = rw (add-one i, e) h

pub all_each : (f : ℕ → Bool) (n : ℕ) → ((k : ℕ) → k < n → f k ≡ true) → all_below n f ≡ true
unfolding all_below
all_each f zero e = refl
all_each f (suc n) e = and_both (all_below n f) (f n) (all_each f n (λ k l. e k (omega arith))) (e n (omega arith))

pub all_lost : (f : ℕ → Bool) (i n : ℕ) → i < n → f i ≡ false → all_below n f ≡ false
unfolding all_below
all_lost f i zero l h = absurd (omega arith)
all_lost f i (suc n) l h =
    by_cases (dec_lt i n)
    (λ m. rw (all_lost f i n m h) refl)
    (λ m. let q : n ≡ i = omega arith in rw (q, h) (and-false (all_below i f)))

pub all_here : (f : ℕ → Bool) (n : ℕ) → all_below n f ≡ true → (i : ℕ) → i < n → f i ≡ true
unfolding all_below
all_here f zero e i l = absurd (omega arith)
all_here f (suc n) e i l =
    by_cases (dec_lt i n)
    (λ m. all_here f n (and_first_true (all_below n f) (f n) e) i m)
    (λ m. let q : n ≡ i = omega arith in subst (λ (j : ℕ). f j ≡ true) q (and_second_true (all_below n f) (f n) e))

-- tests that agree below n hold throughout together
pub all_same : (f g : ℕ → Bool) (n : ℕ) → ((k : ℕ) → k < n → f k ≡ g k) → all_below n f ≡ all_below n g
unfolding all_below
all_same f g zero e = refl
all_same f g (suc n) e = ap₂ ◌&&◌ (all_same f g n (λ k l. e k (omega arith))) (e n (omega arith))

-- ---- a number between two

module _ (low high x : ℕ) where
  pub between_below : x < low → between low high x ≡ false
  between_below h = rw (lt-leb low x h) refl

  pub between_above : high < x → between low high x ≡ false
  between_above h = rw (lt-leb x high h) (and-false (leb low x))

  pub between_in : low ≤ x → x ≤ high → between low high x ≡ true
  between_in h l = rw (le-leb low x h, le-leb x high l) refl

  pub between_ends : between low high x ≡ true → (low ≤ x) × (x ≤ high)
  between_ends e = (leb-true low x (and_first_true (leb low x) (leb x high) e), leb-true x high (and_second_true (leb low x) (leb x high) e))

-- ---- bits

-- a number that is 0 or 1 is the bit of the test for 1
pub bit_test : (v : ℕ) → v ≤ 1 → v ≡ bit_of (eqb v 1)
bit_test v l = elim (ℕ_discrete v 1) [ yes e ↦ rw (eq-eqb v 1 e) e | no e ↦ rw (ne_eqb v 1 e) (omega arith) ]

pub bit_one : (v : Bool) → 1 ≤ bit_of v → v ≡ true
bit_one true h = refl
bit_one false h = absurd (omega arith)

pub bit_small : (v : Bool) → bit_of v ≤ 1
bit_small true = omega arith
bit_small false = omega arith

-- ---- counts

pub count_small : (n : ℕ) (f : ℕ → Bool) → count_below n f ≤ n
unfolding count_below
count_small n f = omega (arith, sum_bound 1 (λ k. bit_of (f k)) (λ k. bit_small (f k)) n)

-- one more, at which f did not hold
pub count_more : (n : ℕ) (f : ℕ → Bool) (q : ℕ) → q < n → f q ≡ false → count_below n (λ k. f k || eqb k q) ≡ count_below n f + 1
unfolding count_below
count_more n f q l e = sum_change (λ k. bit_of (f k)) (λ k. bit_of (f k || eqb k q)) n q 1 l (λ k i o. away (f k) (eqb k q) (ne_eqb k q o)) (here (f q) (eqb q q) e (eq-eqb q q refl))
  where
    here : (a b : Bool) → a ≡ false → b ≡ true → bit_of (a || b) ≡ bit_of a + 1
    here a b e h = rw (e, h) refl

    away : (a b : Bool) → b ≡ false → bit_of (a || b) ≡ bit_of a
    away a b e = rw e (ap bit_of (or-false a))

pub count_one : (n q : ℕ) → q < n → 1 ≤ count_below n (λ k. eqb k q)
unfolding count_below
count_one n q l = omega (arith, sum_at (λ k. bit_of (eqb k q)) n q l, ap bit_of (eq-eqb q q refl))
