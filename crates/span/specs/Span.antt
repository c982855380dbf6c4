-- The equations of one span of the chart, with everything outside the span given as numbers.
use Rattle.std.specs.Prelude.{ℕ, ◌+◌, ◌-◌, ◌*◌, max, ◌≤◌, ◌<◌, List, get_or, set}
use Rattle.chart.specs.Layout.{row_of}
use Rattle.common.specs.Below.{sum_below}
use Rattle.theory.specs.Steps.{cap}

-- ---- the equations

-- A span: its grammar, and what is known of the spans inside it. Rows are as in the chart.
pub record Span : Type 0 where
  pub count : ℕ
  -- how many arguments production p has
  pub arity : ℕ → ℕ
  -- 1 if production q may stand as the next argument of row r
  pub users : ℕ → ℕ → ℕ
  -- what a character counts for as the next argument of row r
  pub bare : ℕ → ℕ
  -- how many lists of trees have their last split inside the span
  pub inner : ℕ → ℕ
  -- how many lists of trees there are for the empty span at the start
  pub front : ℕ → ℕ
  -- how many trees may stand as the next argument over the empty span at the end
  pub back : ℕ → ℕ

-- the row of production p with all its arguments
unfoldable pub whole : (ℕ → ℕ) → ℕ → ℕ
whole arity p = row_of arity p (arity p)

-- how many productions may stand as the next argument of row r, over the whole span, if the cells are x
unfoldable pub used_sum : Span → List ℕ → ℕ → ℕ
used_sum s x r = sum_below s.count (λ q. s.users q r * get_or x (whole s.arity q) 0)

-- how many trees may
unfoldable pub argument_of : Span → List ℕ → ℕ → ℕ
argument_of s x r = s.bare r + used_sum s x r

-- what the equation gives for the cell of the row after r: the splits inside, the one at the start, the one at the end
unfoldable pub step_of : Span → List ℕ → ℕ → ℕ
step_of s x r = cap (s.inner r + s.front r * argument_of s x r + get_or x r 0 * s.back r)

-- No cell of production p is below its equation.
pub record ClosedAt (s : Span) (x : List ℕ) (p : ℕ) : Type 0 where
  pub closed : (d : ℕ) → d < s.arity p → step_of s x (row_of s.arity p d) ≤ get_or x (row_of s.arity p d + 1) 0

-- The cells y came about from the cells x by raising one after the other to what its equation gives.
pub data Raised (s : Span) (x : List ℕ) : List ℕ → Type 0 where
  as_before : Raised s x x
  raised : {y : List ℕ} (p d : ℕ) → Raised s x y → p < s.count → d < s.arity p
      → Raised s x (set y (row_of s.arity p d + 1) (max (get_or y (row_of s.arity p d + 1) 0) (step_of s y (row_of s.arity p d))))

-- how far the cells of all productions are from the cap
unfoldable pub spare : Span → List ℕ → ℕ
spare s x = sum_below s.count (λ q. 2 - get_or x (whole s.arity q) 0)
