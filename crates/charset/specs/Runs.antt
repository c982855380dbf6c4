-- Normal form of a set of numbers: rising ranges that do not touch (01, "The book"; 000, Proposition 3.2).
use Rattle.std.specs.Prelude.{ℕ, zero, suc, ◌≤◌, ◌<◌, Bool, false, cond, ◌||◌, List, [], ◌∷◌, eqb, Option, None, Some}
use Rattle.charset.specs.Set.{in_range}

-- A range: the numbers from low to high, ends included.
pub record Range : Type 0 where
  pub low : ℕ
  pub high : ℕ

abbrev pub range : ℕ → ℕ → Range
range low high = record { low = low; high = high }

-- One number more, below all of the ranges: it joins the first of them if it touches it.
unfoldable pub with_number : ℕ → List Range → List Range
with_number i [] = range i i ∷ []
with_number i (r ∷ rs) = cond (eqb (suc i) r.low) (range i r.high ∷ rs) (range i i ∷ r ∷ rs)

-- The normal ranges of those of the n numbers from i on at which f holds.
unfoldable pub runs : (ℕ → Bool) → ℕ → ℕ → List Range
runs f i zero = []
runs f i (suc n) = cond (f i) (with_number i (runs f (suc i) n)) (runs f (suc i) n)

-- The first of the ranges begins above `end` and does not touch it.
unfoldable pub Apart : ℕ → List Range → Type 0
Apart end [] = Unit {0}
Apart end (r ∷ rs) = suc end < r.low

-- Number c is in one of the ranges.
unfoldable pub covered : List Range → ℕ → Bool
covered [] c = false
covered (r ∷ rs) c = in_range r.low r.high c || covered rs c

-- Normal form: no range is empty, and each begins above the end of the one before without touching it.
unfoldable pub Normal : List Range → Type 0
Normal [] = Unit {0}
Normal (r ∷ rs) = (r.low ≤ r.high) × Apart r.high rs × Normal rs

-- What reading the ranges one by one gives: the first, or that none is left.
unfoldable pub first_run : List Range → Option (ℕ × ℕ)
first_run [] = None
first_run (r ∷ rs) = Some (r.low, r.high)
