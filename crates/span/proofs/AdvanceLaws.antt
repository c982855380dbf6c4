-- Cells raised one after the other, as lists: which rows change, and what they become.
use Prim.Native.Nat.{ℕ, zero, suc, ◌+◌, ◌*◌, max, ◌≤◌, ◌<◌}
use mathlib.Core.Path.{◌≡◌, refl, ◌∙◌}
use mathlib.Core.List.{List}
use mathlib.Core.Logic.{◌≢◌}
use native.Mathlib.Omega.{arith}
use native.Mathlib.Decide.{ℕ_discrete}
use native.Mathlib.Numerals.{add-one}
use lib.ListN.{length, get_or, set, length-set}
use lib.Seq.{get_or-set_same, get_or-set_other}
use Rattle.span.specs.Tables.{step_in, raised_at, advanced}
use Rattle.theory.specs.Steps.{cap}

module _ (inner front back args : List ℕ) where
  -- ---- one row

  -- the cell of row r + 1 becomes what the equation gives, or stays
  raised_here : (x : List ℕ) (r : ℕ) → r + 1 < length x
      → get_or (raised_at inner front back args x r) (r + 1) 0 ≡ max (get_or x (r + 1) 0) (step_in inner front back args x r)
  unfolding raised_at
  raised_here x r l = get_or-set_same x (r + 1) _ 0 l

  -- no other cell changes
  raised_other : (x : List ℕ) (r k : ℕ) → k ≢ r + 1 → get_or (raised_at inner front back args x r) k 0 ≡ get_or x k 0
  unfolding raised_at
  raised_other x r k n = get_or-set_other x (r + 1) k _ 0 n

  -- the list stays as long
  raised_long : (x : List ℕ) (r : ℕ) → length (raised_at inner front back args x r) ≡ length x
  unfolding raised_at
  raised_long x r = length-set x (r + 1) _

  -- no equation gives more than 2
  step_small : (x : List ℕ) (r : ℕ) → step_in inner front back args x r ≤ 2
  unfolding step_in
  step_small x r = omega arith

  -- cells never fall, and stay small
  raised_within : (x : List ℕ) (r : ℕ) → r + 1 < length x → (k : ℕ) → get_or x k 0 ≤ 2
      → (get_or x k 0 ≤ get_or (raised_at inner front back args x r) k 0) × (get_or (raised_at inner front back args x r) k 0 ≤ 2)
  raised_within x r l k h =
      elim (ℕ_discrete k (r + 1)) [
        | yes e ↦ rw e (here (rw e at h))
        | no e ↦ (omega (arith, raised_other x r k e), omega (arith, raised_other x r k e))
      ]
    where
      here : get_or x (r + 1) 0 ≤ 2
          → (get_or x (r + 1) 0 ≤ get_or (raised_at inner front back args x r) (r + 1) 0) × (get_or (raised_at inner front back args x r) (r + 1) 0 ≤ 2)
      here m = (omega (arith, raised_here x r l), omega (arith, raised_here x r l, step_small x r))

  -- the row just raised is not below its equation
  raised_closed : (x : List ℕ) (r : ℕ) → r + 1 < length x
      → step_in inner front back args (raised_at inner front back args x r) r ≤ get_or (raised_at inner front back args x r) (r + 1) 0
  unfolding step_in
  raised_closed x r l = rw (raised_other x r r (λ e. omega arith)) (omega (arith, raised_here x r l))

  -- a step looks at one cell
  step_same : (x y : List ℕ) (r : ℕ) → get_or y r 0 ≡ get_or x r 0 → step_in inner front back args y r ≡ step_in inner front back args x r
  unfolding step_in
  step_same x y r e = rw e refl

  -- ---- the rows of a production

  -- one turn of the loop
  pub advanced_next : (base d : ℕ) (x y : List ℕ) (v w : ℕ) → y ≡ advanced inner front back args base d x
      → w ≡ cap (get_or inner (base + d) 0 + get_or front (base + d) 0 * get_or args (base + d) 0 + get_or y (base + d) 0 * get_or back (base + d) 0)
      → v ≡ max (get_or y (base + d + 1) 0) w
      → set y (base + d + 1) v ≡ advanced inner front back args base (d + 1) x
  unfolding advanced raised_at step_in
  advanced_next base d x y v w e f g = rw (add-one d, ← e, g, f) refl

  module _ (base : ℕ) (x : List ℕ) where
    -- the list stays as long
    advanced_long : (d : ℕ) → length (advanced inner front back args base d x) ≡ length x
    unfolding advanced
    advanced_long zero = refl
    advanced_long (suc d) = raised_long (advanced inner front back args base d x) (base + d) ∙ advanced_long d

    -- only the d rows after the first change
    pub advanced_other : (d k : ℕ) → ((e : ℕ) → e < d → k ≢ base + e + 1) → get_or (advanced inner front back args base d x) k 0 ≡ get_or x k 0
    unfolding advanced
    advanced_other zero k h = refl
    advanced_other (suc d) k h = raised_other (advanced inner front back args base d x) (base + d) k (h d (omega arith)) ∙ advanced_other d k (λ e l. h e (omega arith))

    -- cells never fall, and stay small
    pub advanced_within : (d : ℕ) → base + d < length x → (k : ℕ) → get_or x k 0 ≤ 2
        → (get_or x k 0 ≤ get_or (advanced inner front back args base d x) k 0) × (get_or (advanced inner front back args base d x) k 0 ≤ 2)
    unfolding advanced
    advanced_within zero l k h = (omega arith, h)
    advanced_within (suc d) l k h =
        let w = advanced_within d (omega arith) k h in
        let v = raised_within (advanced inner front back args base d x) (base + d) (omega (arith, advanced_long d)) k w.1 in
        (omega arith, v.1)

    -- none of those rows is below its equation, with the arguments as they were
    pub advanced_closed : (n : ℕ) → base + n < length x → (d : ℕ) → d < n
        → step_in inner front back args (advanced inner front back args base n x) (base + d) ≤ get_or (advanced inner front back args base n x) (base + d + 1) 0
    unfolding advanced
    advanced_closed zero l d h = absurd (omega arith)
    advanced_closed (suc n) l d h =
        let y = advanced inner front back args base n x in
        let z = raised_at inner front back args y (base + n) in
        elim (ℕ_discrete d n) [
          | yes e ↦ rw e (raised_closed y (base + n) (omega (arith, advanced_long n)))
          | no e ↦ omega (arith, advanced_closed n (omega arith) d (omega arith), step_same y z (base + d) (raised_other y (base + n) (base + d) (λ q. omega arith)), raised_other y (base + n) (base + d + 1) (λ q. e (omega arith)))
        ]
