-- Sums and tests over the numbers 0, 1, … n - 1, and the test for a number between two.
use Rattle.std.specs.Prelude.{ℕ, zero, suc, ◌+◌, Bool, false, true, ◌&&◌, ◌||◌, leb}

-- f 0 + f 1 + … + f (n - 1)
unfoldable pub sum_below : ℕ → (ℕ → ℕ) → ℕ
sum_below zero f = 0
sum_below (suc n) f = sum_below n f + f n

-- f holds at each of them
unfoldable pub all_below : ℕ → (ℕ → Bool) → Bool
all_below zero f = true
all_below (suc n) f = all_below n f && f n

-- f holds at one of them
unfoldable pub any_below : ℕ → (ℕ → Bool) → Bool
any_below zero f = false
any_below (suc n) f = any_below n f || f n

-- 1 for true, 0 for false
abbrev pub bit_of : Bool → ℕ
bit_of true = 1
bit_of false = 0

-- x is one of low, low + 1, … high
abbrev pub between : (low high : ℕ) → ℕ → Bool
between low high x = leb low x && leb x high

-- how many of them there are at which f holds
unfoldable pub count_below : ℕ → (ℕ → Bool) → ℕ
count_below n f = sum_below n (λ k. bit_of (f k))
