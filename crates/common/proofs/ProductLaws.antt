-- Products of small counts.
use Prim.Native.Nat.{ℕ, zero, suc, ◌*◌, ◌≤◌}
use mathlib.Core.Logic.{◌⊎◌, inl, inr}
use native.Mathlib.Omega.{arith}

pub product_one : (a b : ℕ) → 1 ≤ a * b → (1 ≤ a) × (1 ≤ b)
product_one zero b h = absurd (omega arith)
product_one (suc a) zero h = absurd (omega arith)
product_one (suc a) (suc b) h = (omega arith, omega arith)

pub product_two : (a b : ℕ) → 2 ≤ a * b → ((2 ≤ a) × (1 ≤ b)) ⊎ ((1 ≤ a) × (2 ≤ b))
product_two zero b h = absurd (omega arith)
product_two (suc zero) b h = inr (omega arith, omega arith)
product_two (suc (suc a)) zero h = absurd (omega arith)
product_two (suc (suc a)) (suc b) h = inl (omega arith, omega arith)

pub one_product : (a b : ℕ) → 1 ≤ a → 1 ≤ b → 1 ≤ a * b
one_product zero b h k = absurd (omega arith)
one_product (suc a) zero h k = absurd (omega arith)
one_product (suc a) (suc b) h k = omega arith

pub left_below : (a b : ℕ) → 1 ≤ b → a ≤ a * b
left_below a zero h = absurd (omega arith)
left_below a (suc b) h = omega arith

pub right_below : (a b : ℕ) → 1 ≤ a → b ≤ a * b
right_below zero b h = absurd (omega arith)
right_below (suc a) b h = omega arith
