-- A visit in terms of the tables: no sum overflows, and each end of the code is one of the laws of a visit.
use Prim.Native.Nat.{ℕ, ◌+◌, ◌-◌, ◌*◌, max, ◌≤◌, ◌<◌}
use mathlib.Core.Path.{◌≡◌, refl, ◌∙◌, ap}
use mathlib.Core.Bool.{false, true}
use mathlib.Core.List.{List}
use mathlib.Core.Logic.{◌≢◌}
use native.Mathlib.Omega.{arith}
use native.Mathlib.Nat.{le_refl, mul-le-mul}
use lib.ListN.{length, get_or, take, drop, set}
use lib.Seq.{get_or-take, get_or-drop}
use Rattle.chart.proofs.LayoutLaws.{row_in, rows_few}
use Rattle.chart.specs.Layout.{row_limit, row_of}
use Rattle.tables.specs.Layout.{arity_in, row_count}
use Rattle.common.proofs.BelowLaws.{sum_bound}
use Rattle.layout.specs.Limits.{production_limit}
use Rattle.span.proofs.AdvanceLaws.{advanced_within}
use Rattle.span.proofs.VisitLaws.{visited_same, visited_rose}
use Rattle.span.specs.Span.{whole, used_sum, argument_of, step_of}
use Rattle.span.specs.Tables.{user_at, use_at, span_of, Links, Loads, Exact, Founded, step_in, advanced, Visited}
use Rattle.common.specs.Bytes.{byte_values}

-- an entry of a table's row
pub part_at : (l : List ℕ) (a n k : ℕ) → k < n → get_or (take ((a + 1) * n - a * n) (drop (a * n) l)) k 0 ≡ get_or l (a * n + k) 0
part_at l a n k h = get_or-take ((a + 1) * n - a * n) (drop (a * n) l) k 0 (omega arith) ∙ get_or-drop (a * n) l k 0

-- the rows are few, and beyond them nothing takes production q
pub part_outside : {counts users uses : List ℕ} → Links counts users uses → (q rows : ℕ) → q < length counts → rows ≡ row_count (arity_in counts) (length counts)
    → (rows ≤ row_limit) × ((r : ℕ) → rows ≤ r → r < row_limit → get_or (take ((q + 1) * row_limit - q * row_limit) (drop (q * row_limit) users)) r 0 ≡ 0)
unfolding user_at
part_outside {counts} {users} links q rows l e = (
  omega (arith, rows_few (arity_in counts) (length counts) links.few_productions links.few_arguments),
  λ r h k. part_at users q row_limit r k ∙ links.outside q r l (omega arith) k,
)

-- production q is to be visited, whose rows begin at `base`
module _ {counts users uses inner front back args x : List ℕ} (q base : ℕ)
    (links : Links counts users uses) (loads : Loads inner front back args x) (founded : Founded counts users inner front back args x)
    (place : (q < length counts) × (base ≡ row_of (arity_in counts) q 0)) where
  -- the rows of the production are among all rows
  pub table_room : (n : ℕ) → n ≡ arity_in counts q → base + n < row_limit
  unfolding row_of
  table_room n e =
      omega (arith, place.1, row_in (arity_in counts) q (arity_in counts q) (length counts) place.0 (le_refl (arity_in counts q)), rows_few (arity_in counts) (length counts) links.few_productions links.few_arguments)

  -- its cells never fall, and stay small
  pub table_within : (n : ℕ) (y : List ℕ) → n ≡ arity_in counts q → y ≡ advanced inner front back args base n x
      → (k : ℕ) → (get_or x k 0 ≤ get_or y k 0) × (get_or y k 0 ≤ 2)
  table_within n y e f k = rw f (advanced_within inner front back args base x n (omega (arith, table_room n e, loads.cells_long)) k (founded.small k))

  -- a row has few arguments
  table_few : (r : ℕ) → r < row_limit → get_or args r 0 ≤ 2 * production_limit + 1
  unfolding argument_of used_sum span_of
  table_few r l =
      omega (arith, founded.agree.exact r l, founded.little r, links.few_productions, sum_bound 2 (λ p. get_or users (user_at p r) 0 * get_or x (whole (arity_in counts) p) 0) product_few (length counts))
    where
      product_few : (p : ℕ) → get_or users (user_at p r) 0 * get_or x (whole (arity_in counts) p) 0 ≤ 2
      product_few p =
          let m : get_or users (user_at p r) 0 ≤ 1 = links.bits (user_at p r) in
          let n : get_or x (whole (arity_in counts) p) 0 ≤ 2 = founded.small (whole (arity_in counts) p) in
          mul-le-mul m n

  -- no overflow when a count rises
  pub table_fits : (n : ℕ) (y : List ℕ) → n ≡ arity_in counts q → y ≡ advanced inner front back args base n x → (k r : ℕ) → r < row_limit
      → get_or args r 0 + (get_or y k 0 - get_or x k 0) * get_or (take ((q + 1) * row_limit - q * row_limit) (drop (q * row_limit) users)) r 0 < byte_values
  table_fits n y e f k r l =
      let g : get_or y k 0 - get_or x k 0 ≤ 2 = omega (arith, (table_within n y e f k).1) in
      let h : get_or (take ((q + 1) * row_limit - q * row_limit) (drop (q * row_limit) users)) r 0 ≤ 1 = rw (part_at users q row_limit r l) (links.bits (q * row_limit + r)) in
      omega (arith, table_few r l, mul-le-mul g h)

  module _ (pending : List ℕ) (bare : ℕ → ℕ) (agree : Exact (span_of counts users inner front back bare) x args) where
    -- the lists are those of the span
    table_steps : (y : List ℕ) (r : ℕ) → get_or args r 0 ≡ argument_of (span_of counts users inner front back bare) y r
        → step_in inner front back args y r ≡ step_of (span_of counts users inner front back bare) y r
    unfolding step_in step_of span_of
    table_steps y r e = rw e refl

    module _ (m n : ℕ) (y : List ℕ) (e : m ≡ arity_in counts q) (f : n ≡ arity_in counts q) (g : y ≡ advanced inner front back args base n x) where
      -- the cells, and the row of the count
      table_cells : y ≡ advanced inner front back args base (arity_in counts q) x
      table_cells = g ∙ ap (λ (k : ℕ). advanced inner front back args base k x) f

      table_whole : whole (arity_in counts) q ≡ base + m
      unfolding whole row_of
      table_whole = omega (arith, place.1, e)

      -- a visit ends when the count of the production has stayed
      pub table_same : q < length pending → get_or y (base + m) 0 ≡ get_or x (base + m) 0
          → Visited (span_of counts users inner front back bare) q (q + 1) pending args x (set pending q 0) args y false
      unfolding span_of
      table_same l k =
          rw table_cells
          (visited_same (span_of counts users inner front back bare) inner front back args x q base table_steps agree founded.small loads.cells_long place.0 place.1 (table_room (arity_in counts q) refl)
          pending l (rw (table_whole, ← table_cells) k))

      -- or when its count rose, and that was spread and marked
      pub table_rose : (pending' args' : List ℕ) → get_or y (base + m) 0 ≢ get_or x (base + m) 0
          → ((r : ℕ) → r < row_limit → get_or args' r 0 ≡ get_or args r 0 + (get_or y (base + m) 0 - get_or x (base + m) 0) * get_or (take ((q + 1) * row_limit - q * row_limit) (drop (q * row_limit) users)) r 0)
          → ((p : ℕ) → p < production_limit → get_or pending' p 0 ≡ max (get_or (set pending q 0) p 0) (get_or (take ((q + 1) * production_limit - q * production_limit) (drop (q * production_limit) uses)) p 0))
          → Visited (span_of counts users inner front back bare) q (q + 1) pending args x pending' args' y true
      unfolding span_of user_at use_at
      table_rose pending' args' k spread marks =
          rw table_cells
          (visited_rose (span_of counts users inner front back bare) inner front back args x q base table_steps agree founded.small loads.cells_long place.0 place.1 (table_room (arity_in counts q) refl)
          pending pending' args' (λ p. get_or uses (use_at q p) 0) (get_or y (base + m) 0 - get_or x (base + m) 0)
          (omega (arith, (table_within n y f g (base + m)).0, k))
          (rw (table_whole, ← table_cells) (omega (arith, (table_within n y f g (base + m)).0)))
          (λ p d l h u. links.unused q p d place.0 l h u)
          (λ r l. rw (← part_at users q row_limit r l) (spread r l))
          (λ p l. let h : p < production_limit = omega (arith, links.few_productions) in rw (← part_at uses q production_limit p h) (marks p h)))
