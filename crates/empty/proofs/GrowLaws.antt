-- Cells that are raised while the arguments at their end are held fixed.
use Prim.Native.Nat.{ℕ, ◌-◌, ◌*◌, ◌≤◌}
use mathlib.Core.Path.{◌≡◌}
use mathlib.Core.List.{List}
use native.Mathlib.Omega.{arith}
use native.Mathlib.Nat.{le_refl, mul-le-mul}
use lib.ListN.{get_or}
use Rattle.chart.specs.Layout.{row_limit, row_of}
use Rattle.tables.specs.Layout.{arity_in}
use Rattle.common.specs.Zeros.{AllZero}
use Rattle.empty.proofs.RightLaws.{Right, raised_grows, raised_right}
use Rattle.empty.proofs.SumLaws.{sum_less, sum_tight}
use Rattle.empty.specs.Turns.{empty_span}
use Rattle.span.proofs.SpanLaws.{Alike}
use Rattle.span.specs.Span.{Span, whole, used_sum, argument_of, step_of, Raised, as_before, raised, spare}
use Rattle.span.specs.Tables.{span_of, Links, Exact}
use Rattle.theory.specs.Steps.{cap}

-- ---- cells that grow

module _ (s : Span) (x y : List ℕ) (grows : (k : ℕ) → get_or x k 0 ≤ get_or y k 0) where
  used_grows : (r : ℕ) → used_sum s x r ≤ used_sum s y r
  unfolding used_sum
  used_grows r = sum_less _ _ s.count (λ q l. mul-le-mul (le_refl (s.users q r)) (grows (whole s.arity q)))

  pub spare_grows : spare s y ≤ spare s x
  unfolding spare
  spare_grows = sum_less _ _ s.count (λ q l. omega (arith, grows (whole s.arity q)))

  -- if there is as much to spare, no count rose
  pub spare_tight : ((k : ℕ) → get_or y k 0 ≤ 2) → spare s x ≤ spare s y → Alike s x y
  unfolding spare
  spare_tight small e p l =
      let f = sum_tight (λ q. 2 - get_or y (whole s.arity q) 0) (λ q. 2 - get_or x (whole s.arity q) 0) s.count (λ q m. omega (arith, grows (whole s.arity q))) e p l in
      omega (arith, f, grows (whole s.arity p), small (whole s.arity p))

-- ---- the span with the arguments at the end held fixed

abbrev pub held_span : (counts users zeros back : List ℕ) → Span
held_span counts users zeros back = span_of counts users zeros zeros back (λ (r : ℕ). 0)

module _ (counts users zeros back : List ℕ) where
  -- an argument rests on the cells alone
  pub exact_held : {x args : List ℕ} → Exact (empty_span counts users) x args → Exact (held_span counts users zeros back) x args
  unfolding argument_of used_sum span_of
  exact_held e = record { exact = e.exact }

  pub exact_empty : {x args : List ℕ} → Exact (held_span counts users zeros back) x args → Exact (empty_span counts users) x args
  unfolding argument_of used_sum span_of
  exact_empty e = record { exact = e.exact }

  module _ (z : AllZero row_limit zeros) where
    -- what the equation gives
    pub step_held : (y : List ℕ) (r : ℕ) → step_of (held_span counts users zeros back) y r ≡ cap (get_or y r 0 * get_or back r 0)
    unfolding step_of span_of
    step_held y r = rw (z.zeros r) (omega arith)

    -- cells raised to it stay right, and none falls
    module _ {uses x : List ℕ} (links : Links counts users uses) (right : Right counts users x) (less : (r : ℕ) → get_or back r 0 ≤ used_sum (empty_span counts users) x r) where
      pub grown_right : {y : List ℕ} → Raised (held_span counts users zeros back) x y → Right counts users y × ((k : ℕ) → get_or x k 0 ≤ get_or y k 0)
      unfolding span_of
      grown_right as_before = (right, λ k. le_refl (get_or x k 0))
      grown_right (raised {y} p d c l m) =
          let (g, h) = grown_right c in
          let r = row_of (arity_in counts) p d in
          let v = step_of (held_span counts users zeros back) y r in
          let two : v ≤ 2 = omega (arith, step_held y r) in
          let few : v ≤ get_or y r 0 * used_sum (empty_span counts users) y r
          = omega (arith, step_held y r, mul-le-mul (le_refl (get_or y r 0)) (less r), mul-le-mul (le_refl (get_or y r 0)) (used_grows (empty_span counts users) x y h r)) in
          (raised_right links g p d l m v two few, λ k. omega (arith, h k, raised_grows links g p d l m v k))
