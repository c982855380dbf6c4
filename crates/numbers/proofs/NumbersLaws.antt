-- The numbers of a listing's bytes, one by one, and the bytes of numbers.
use Prim.Native.Nat.{ℕ, zero, suc, ◌+◌, ◌*◌, ◌/◌, ◌<◌, ◌%◌}
use mathlib.Core.List.{List, [], ◌∷◌}
use mathlib.Core.Path.{◌≡◌, refl, sym, ◌∙◌, ap₂}
use native.Mathlib.Omega.{arith}
use lib.ListN.{length, get_or}
use Rattle.common.specs.Bytes.{byte_values, number_at}
use Rattle.common.specs.Lists.{joined}
use Rattle.numbers.specs.Numbers.{numbers_of}
use Rattle.numbers.specs.Written.{two_bytes}

pub numbers_length : (l : List ℕ) → length (numbers_of l) ≡ length l / 2
unfolding numbers_of
numbers_length [] = refl
numbers_length (x ∷ []) = refl
numbers_length (x ∷ y ∷ l) = let e = numbers_length l in omega arith

pub numbers_at : (l : List ℕ) (k : ℕ) → k < length (numbers_of l) → get_or (numbers_of l) k 0 ≡ number_at l (2 * k)
unfolding numbers_of number_at
numbers_at [] k h = absurd (omega arith)
numbers_at (x ∷ []) k h = absurd (omega arith)
numbers_at (x ∷ y ∷ l) zero h = refl
numbers_at (x ∷ y ∷ l) (suc k) h =
    numbers_at l k (omega arith)
    ∙ sym (ap₂ (λ (i j : ℕ). get_or (x ∷ y ∷ l) i 0 + byte_values * get_or (x ∷ y ∷ l) j 0) (two_more k) (one_further k))
  where
    two_more : (k : ℕ) → 2 * suc k ≡ suc (suc (2 * k))
    two_more k = omega arith

    one_further : (k : ℕ) → 2 * suc k + 1 ≡ suc (suc (2 * k + 1))
    one_further k = omega arith

-- what is written of numbers is read as these numbers
pub numbers_joined : (ns : List ℕ) → numbers_of (joined two_bytes ns) ≡ ns
unfolding numbers_of joined two_bytes
numbers_joined [] = refl
numbers_joined (n ∷ ns) = let e : n % byte_values + byte_values * (n / byte_values) ≡ n = omega arith in rw (numbers_joined ns, e) refl
