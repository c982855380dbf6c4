-- The equations of a span, when some cells change: what they still say, and what is still closed.
use Prim.Native.Nat.{ℕ, ◌+◌, ◌-◌, ◌*◌, ◌≤◌, ◌<◌}
use mathlib.Core.Path.{◌≡◌, sym, ◌∙◌, ap}
use mathlib.Core.List.{List}
use mathlib.Core.Logic.{◌≢◌}
use native.Mathlib.Omega.{arith}
use lib.ListN.{get_or}
use Rattle.chart.proofs.LayoutLaws.{row_shift}
use Rattle.chart.specs.Layout.{row_of}
use Rattle.common.proofs.BelowLaws.{sum_same, sum_change}
use Rattle.span.specs.Span.{Span, whole, used_sum, argument_of, step_of, ClosedAt, Raised, as_before, raised, spare}
use Rattle.span.specs.Tables.{Exact}

-- ---- cells that change

module _ (s : Span) (x y : List ℕ) where
  -- The counts of all productions are the same in both.
  abbrev pub Alike : Type 0
  Alike = (p : ℕ) → p < s.count → get_or y (whole s.arity p) 0 ≡ get_or x (whole s.arity p) 0

  -- then so is all that rests on them
  used_same : Alike → (r : ℕ) → used_sum s y r ≡ used_sum s x r
  unfolding used_sum
  used_same h r = sum_same _ _ s.count (λ q l. ap (λ (n : ℕ). s.users q r * n) (h q l))

  pub argument_same : Alike → (r : ℕ) → argument_of s y r ≡ argument_of s x r
  unfolding argument_of
  argument_same h r = ap (λ (n : ℕ). s.bare r + n) (used_same h r)

  pub spare_same : Alike → spare s y ≡ spare s x
  unfolding spare
  spare_same h = sum_same _ _ s.count (λ q l. ap (λ (n : ℕ). 2 - n) (h q l))

  pub exact_same : (args : List ℕ) → Alike → Exact s x args → Exact s y args
  exact_same args h e = record { exact = λ r l. e.exact r l ∙ sym (argument_same h r) }

  -- The count of production q alone rose, by m.
  pub record Rise (q m : ℕ) : Type 0 where
    pub among : q < s.count
    pub by : get_or y (whole s.arity q) 0 ≡ get_or x (whole s.arity q) 0 + m
    pub others : (p : ℕ) → p < s.count → p ≢ q → get_or y (whole s.arity p) 0 ≡ get_or x (whole s.arity p) 0

  -- then the rows that take it have more arguments
  used_rise : (q m : ℕ) → Rise q m → (r : ℕ) → used_sum s y r ≡ used_sum s x r + m * s.users q r
  unfolding used_sum
  used_rise q m h r =
      sum_change _ _ s.count q (m * s.users q r) h.among
      (λ p l n. ap (λ (k : ℕ). s.users p r * k) (h.others p l n))
      (omega (arith, ap (λ (k : ℕ). s.users q r * k) h.by))

  pub argument_rise : (q m : ℕ) → Rise q m → (r : ℕ) → argument_of s y r ≡ argument_of s x r + m * s.users q r
  unfolding argument_of
  argument_rise q m h r = omega (arith, used_rise q m h r)

  -- and there is less to spare
  pub spare_fall : (q m : ℕ) → Rise q m → get_or y (whole s.arity q) 0 ≤ 2 → spare s x ≡ spare s y + m
  unfolding spare
  spare_fall q m h l = sum_change _ _ s.count q m h.among (λ p k n. ap (λ (i : ℕ). 2 - i) (sym (h.others p k n))) (omega (arith, h.by))

  -- A production is still closed if its cells, and the arguments of its rows, are the same.
  pub closed_kept : (p : ℕ)
      → ((d : ℕ) → d ≤ s.arity p → get_or y (row_of s.arity p d) 0 ≡ get_or x (row_of s.arity p d) 0)
      → ((d : ℕ) → d < s.arity p → argument_of s y (row_of s.arity p d) ≡ argument_of s x (row_of s.arity p d))
      → ClosedAt s x p → ClosedAt s y p
  unfolding step_of
  closed_kept p h k c =
      record {
        closed = λ d l.
            let e = h d (omega arith) in
            let f : get_or y (row_of s.arity p d + 1) 0 ≡ get_or x (row_of s.arity p d + 1) 0 = rw (row_shift s.arity p d) (h (d + 1) (omega arith)) in
            rw (e, f, k d l) (c.closed d l);
      }

-- one raising after the other
pub raised_join : {s : Span} {x y z : List ℕ} → Raised s x y → Raised s y z → Raised s x z
raised_join a as_before = a
raised_join a (raised p d b l m) = raised p d (raised_join a b) l m
