-- What a visit of one production does to a span.
use Prim.Native.Nat.{ℕ, zero, suc, ◌+◌, ◌*◌, max, ◌≤◌, ◌<◌}
use mathlib.Core.Path.{◌≡◌, sym, ◌∙◌, ap}
use mathlib.Core.Bool.{false, true, true≢false}
use mathlib.Core.List.{List}
use mathlib.Core.Logic.{◌≢◌}
use native.Mathlib.Omega.{arith}
use native.Mathlib.Decide.{ℕ_discrete}
use native.Mathlib.Nat.{le_refl, le_of_eq}
use lib.ListN.{length, get_or, set}
use lib.Seq.{get_or-set_same, get_or-set_other}
use Rattle.chart.proofs.LayoutLaws.{row_same}
use Rattle.chart.specs.Layout.{row_limit, row_of}
use Rattle.span.proofs.AdvanceLaws.{advanced_other, advanced_within, advanced_closed}
use Rattle.span.proofs.SpanLaws.{Alike, argument_same, spare_same, exact_same, Rise, argument_rise, spare_fall, closed_kept}
use Rattle.span.specs.Span.{Span, whole, argument_of, step_of, ClosedAt, Raised, as_before, raised}
use Rattle.span.specs.Tables.{Exact, step_in, raised_at, advanced, Visited}

-- ---- nothing to do

-- productions that are not pending are passed over
pub visited_idle : {s : Span} {pending args x : List ℕ} (i j : ℕ) → ((r : ℕ) → get_or x r 0 ≤ 2) → Exact s x args
    → ((p : ℕ) → i ≤ p → p < j → get_or pending p 0 ≡ 0) → Visited s i j pending args x pending args x false
visited_idle {pending = pending} i j small agree done =
    record {
      small = small;
      agree = agree;
      came = as_before;
      rests = λ r. r;
      less = omega arith;
      calm = λ _ p. le_refl (get_or pending p 0);
      done = λ _. done;
    }

-- ---- the cells of production q, raised from row `base` on

module _ (s : Span) (inner front back args x : List ℕ) (q base : ℕ)
    -- the lists are those of the span
    (steps : (y : List ℕ) (r : ℕ) → get_or args r 0 ≡ argument_of s y r → step_in inner front back args y r ≡ step_of s y r)
    (agree : Exact s x args) (small : (r : ℕ) → get_or x r 0 ≤ 2) (long : length x ≡ row_limit)
    (among : q < s.count) (at : base ≡ row_of s.arity q 0) (room : base + s.arity q < row_limit) where
  -- the rows of the production
  row_at : (d : ℕ) → base + d ≡ row_of s.arity q d
  unfolding row_of
  row_at d = omega (arith, at)

  -- before the last argument no count changes
  advanced_alike : (d : ℕ) → d < s.arity q → Alike s x (advanced inner front back args base d x)
  unfolding whole
  advanced_alike d l p m =
      advanced_other inner front back args base x d (row_of s.arity p (s.arity p)) (λ e k o.
      let f : row_of s.arity p (s.arity p) ≡ row_of s.arity q (e + 1) = o ∙ omega (arith, row_at (e + 1)) in
      let (g, h) = row_same s.arity p q (s.arity p) (e + 1) (le_refl (s.arity p)) (omega arith) f in
      omega (arith, h, ap s.arity g))

  -- no row of another production changes
  advanced_apart : (p d : ℕ) → p ≢ q → d ≤ s.arity p
      → get_or (advanced inner front back args base (s.arity q) x) (row_of s.arity p d) 0 ≡ get_or x (row_of s.arity p d) 0
  advanced_apart p d n l =
      advanced_other inner front back args base x (s.arity q) (row_of s.arity p d) (λ e k o.
      let f : row_of s.arity p d ≡ row_of s.arity q (e + 1) = o ∙ omega (arith, row_at (e + 1)) in
      n (row_same s.arity p q d (e + 1) l (omega arith) f).0)

  -- each cell is raised to what its equation gives
  advanced_raised : (d : ℕ) → d ≤ s.arity q → Raised s x (advanced inner front back args base d x)
  unfolding advanced raised_at
  advanced_raised zero l = as_before
  advanced_raised (suc d) l =
      let y = advanced inner front back args base d x in
      let r = row_of s.arity q d in
      let f : get_or args r 0 ≡ argument_of s y r = agree.exact r (omega (arith, row_at d)) ∙ sym (argument_same s x y (advanced_alike d (omega arith)) r) in
      rw (row_at d, steps y r f) (raised q d (advanced_raised d (omega arith)) among (omega arith))

  -- and none is below it in the end, if the arguments are still the same
  advanced_closes : ((d : ℕ) → d < s.arity q → argument_of s (advanced inner front back args base (s.arity q) x) (row_of s.arity q d) ≡ argument_of s x (row_of s.arity q d))
      → ClosedAt s (advanced inner front back args base (s.arity q) x) q
  advanced_closes h =
      record {
        closed = λ d l.
            let y = advanced inner front back args base (s.arity q) x in
            let r = row_of s.arity q d in
            let f : get_or args r 0 ≡ argument_of s y r = agree.exact r (omega (arith, row_at d)) ∙ sym (h d l) in
            rw (← steps y r f, ← row_at d) (advanced_closed inner front back args base x (s.arity q) (omega arith) d l);
      }

  -- cells stay small
  advanced_small : (r : ℕ) → get_or (advanced inner front back args base (s.arity q) x) r 0 ≤ 2
  advanced_small r = (advanced_within inner front back args base x (s.arity q) (omega arith) r (small r)).1

  -- ---- a visit

  module _ (pending : List ℕ) where
    -- of a production whose count stays
    pub visited_same : q < length pending
        → get_or (advanced inner front back args base (s.arity q) x) (whole s.arity q) 0 ≡ get_or x (whole s.arity q) 0
        → Visited s q (q + 1) pending args x (set pending q 0) args (advanced inner front back args base (s.arity q) x) false
    unfolding whole
    visited_same l e =
        record {
          small = advanced_small;
          agree = exact_same s x y args alike agree;
          came = advanced_raised (s.arity q) (le_refl (s.arity q));
          rests = λ r. record {
            rest = λ p k z. elim (ℕ_discrete p q) [
              | yes f ↦ rw f (advanced_closes (λ d m. argument_same s x y alike (row_of s.arity q d)))
              | no n ↦ closed_kept s x y p (λ d m. advanced_apart p d n m) (λ d m. argument_same s x y alike (row_of s.arity p d)) (r.rest p k (sym (get_or-set_other pending q p 0 0 n) ∙ z))
            ];
          };
          less = omega (arith, spare_same s x y alike);
          calm = λ _ p. elim (ℕ_discrete p q) [
            | yes f ↦ rw (f, get_or-set_same pending q 0 0 l) (omega arith)
            | no n ↦ le_of_eq (get_or-set_other pending q p 0 0 n)
          ];
          done = λ _ p k m. let f : p ≡ q = omega arith in rw f (get_or-set_same pending q 0 0 l);
        }
      where
        y : List ℕ
        y = advanced inner front back args base (s.arity q) x

        alike : Alike s x y
        alike p k = elim (ℕ_discrete p q) [ yes f ↦ rw f e | no n ↦ advanced_apart p (s.arity p) n (le_refl (s.arity p)) ]

    -- of one whose count rises by m: the rows that take it have more arguments, and the productions that have such a row are pending
    pub visited_rose : (pending' args' : List ℕ) (uses : ℕ → ℕ) (m : ℕ) → 1 ≤ m
        → get_or (advanced inner front back args base (s.arity q) x) (whole s.arity q) 0 ≡ get_or x (whole s.arity q) 0 + m
        → ((p d : ℕ) → p < s.count → d < s.arity p → uses p ≡ 0 → s.users q (row_of s.arity p d) ≡ 0)
        → ((r : ℕ) → r < row_limit → get_or args' r 0 ≡ get_or args r 0 + m * s.users q r)
        → ((p : ℕ) → p < s.count → get_or pending' p 0 ≡ max (get_or (set pending q 0) p 0) (uses p))
        → Visited s q (q + 1) pending args x pending' args' (advanced inner front back args base (s.arity q) x) true
    unfolding whole
    visited_rose pending' args' uses m l e unused spread marks =
        record {
          small = advanced_small;
          agree = record { exact = λ r k. spread r k ∙ omega (arith, agree.exact r k, argument_rise s x y q m rise r) };
          came = advanced_raised (s.arity q) (le_refl (s.arity q));
          rests = λ r. record {
            rest = λ p k z. elim (ℕ_discrete p q) [
              | yes f ↦ rw f (advanced_closes (λ d i. calm q d among (rw f at z) i))
              | no n ↦ closed_kept s x y p (λ d i. advanced_apart p d n i) (λ d i. calm p d k z i) (r.rest p k (omega (arith, marks p k, get_or-set_other pending q p 0 0 n)))
            ];
          };
          less = omega (arith, spare_fall s x y q m rise (advanced_small (whole s.arity q)));
          calm = λ f. absurd (true≢false f);
          done = λ f. absurd (true≢false f);
        }
      where
        y : List ℕ
        y = advanced inner front back args base (s.arity q) x

        rise : Rise s x y q m
        rise = record { among = among; by = e; others = λ p k n. advanced_apart p (s.arity p) n (le_refl (s.arity p)) }

        -- a production that is not pending has no row that takes q
        calm : (p d : ℕ) → p < s.count → get_or pending' p 0 ≡ 0 → d < s.arity p → argument_of s y (row_of s.arity p d) ≡ argument_of s x (row_of s.arity p d)
        calm p d k z i =
            let f : uses p ≡ 0 = omega (arith, marks p k) in
            omega (arith, argument_rise s x y q m rise (row_of s.arity p d), ap (λ (n : ℕ). m * n) (unused p d k i f))
