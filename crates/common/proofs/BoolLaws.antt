-- Laws of tests: what a true or false test says of its parts, and tests that agree.
use Prim.Native.Nat.{ℕ}
use mathlib.Core.Path.{◌≡◌, refl, sym, ◌∙◌}
use mathlib.Core.Bool.{Bool, false, true, not, ◌&&◌, ◌||◌, beq, true≢false, false≢true, or-true}
use mathlib.Core.Logic.{◌⊎◌, inl, inr}
use lib.Dec.{eqb}
use borrow.Author.Tests.{eqb-true, eq-eqb}

-- ---- or

pub or_cases : (a b : Bool) → (a || b) ≡ true → (a ≡ true) ⊎ (b ≡ true)
or_cases true b e = inl refl
or_cases false b e = inr e

pub or_first : (a b : Bool) → a ≡ true → (a || b) ≡ true
or_first a b e = rw e refl

pub or_second : (a b : Bool) → b ≡ true → (a || b) ≡ true
or_second a b e = rw e (or-true a)

pub or_first_false : (a b : Bool) → (a || b) ≡ false → a ≡ false
or_first_false true b e = e
or_first_false false b e = refl

pub or_second_false : (a b : Bool) → (a || b) ≡ false → b ≡ false
or_second_false true b e = absurd (true≢false e)
or_second_false false b e = e

-- a test that holds only where the other does adds nothing to it
pub or_absorbed : (a b : Bool) → (a ≡ true → b ≡ true) → (a || b) ≡ b
or_absorbed true b f = sym (f refl)
or_absorbed false b f = refl

-- ---- and

pub and_both : (a b : Bool) → a ≡ true → b ≡ true → (a && b) ≡ true
and_both a b e f = rw (e, f) refl

pub and_first_true : (a b : Bool) → (a && b) ≡ true → a ≡ true
and_first_true true b e = refl
and_first_true false b e = e

pub and_second_true : (a b : Bool) → (a && b) ≡ true → b ≡ true
and_second_true true b e = e
and_second_true false b e = absurd (false≢true e)

-- what is taken out is taken out of what is there: nothing else matters
pub taken_out : (a b : Bool) → (a && not (a && b)) ≡ (a && not b)
taken_out true b = refl
taken_out false b = refl

-- tests behind a test need agree only where that one holds
pub and_same : (a b c : Bool) → (a ≡ true → b ≡ c) → (a && b) ≡ (a && c)
and_same true b c e = e refl
and_same false b c e = refl

-- ---- comparing two tests

pub beq_true : (a b : Bool) → beq a b ≡ true → a ≡ b
beq_true true true e = refl
beq_true true false e = sym e
beq_true false true e = e
beq_true false false e = refl

pub same_beq : (a b : Bool) → a ≡ b → beq a b ≡ true
same_beq true true e = refl
same_beq true false e = absurd (true≢false e)
same_beq false true e = absurd (false≢true e)
same_beq false false e = refl

pub beq_false : (a b : Bool) → beq a b ≡ false → a ≡ not b
beq_false true true e = e
beq_false true false e = refl
beq_false false true e = refl
beq_false false false e = sym e

-- two tests that hold together are one
pub same_test : (a b : Bool) → (a ≡ true → b ≡ true) → (b ≡ true → a ≡ true) → a ≡ b
same_test true b f g = sym (f refl)
same_test false true f g = g refl
same_test false false f g = refl

pub true_or_false : (a : Bool) → (a ≡ true) ⊎ (a ≡ false)
true_or_false true = inl refl
true_or_false false = inr refl

pub not_both : {A : Type 0} (a : Bool) → a ≡ true → a ≡ false → A
not_both a e f = absurd (true≢false (sym e ∙ f))

-- equality is tested from either side
pub eqb_sym : (m n : ℕ) → eqb m n ≡ eqb n m
eqb_sym m n = same_test (eqb m n) (eqb n m) (λ e. eq-eqb n m (sym (eqb-true m n e))) (λ e. eq-eqb m n (sym (eqb-true n m e)))
