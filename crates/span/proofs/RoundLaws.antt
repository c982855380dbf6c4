-- Visits one after the other, and rounds of them until no count rises.
use Prim.Native.Nat.{ℕ, ◌+◌, ◌*◌, ◌≤◌, ◌<◌}
use mathlib.Core.Path.{◌≡◌, refl, ap}
use mathlib.Core.Bool.{Bool, false, true, ◌||◌, true≢false}
use mathlib.Core.List.{List}
use mathlib.Core.Logic.{by_cases}
use native.Mathlib.Omega.{arith}
use native.Mathlib.Decide.{dec_lt}
use lib.ListN.{get_or, replicate, get_or-replicate}
use Rattle.chart.proofs.LayoutLaws.{row_next}
use Rattle.chart.specs.Layout.{row_of}
use Rattle.common.proofs.BoolLaws.{or_first_false, or_second_false}
use Rattle.common.specs.Below.{sum_below, bit_of}
use Rattle.span.proofs.SpanLaws.{raised_join}
use Rattle.span.specs.Span.{Span, Raised, as_before, spare}
use Rattle.span.specs.Tables.{span_of, Exact, Resting, Visited}

-- ---- visits

-- visits one after the other
pub visited_join : {s : Span} {i j k : ℕ} {pending args x pending' args' x' pending'' args'' x'' : List ℕ} {a b : Bool}
    → Visited s i j pending args x pending' args' x' a → Visited s j k pending' args' x' pending'' args'' x'' b
    → Visited s i k pending args x pending'' args'' x'' (a || b)
visited_join {j = j} {a = a} {b = b} v w =
    record {
      small = w.small;
      agree = w.agree;
      came = raised_join v.came w.came;
      rests = λ r. w.rests (v.rests r);
      less = omega (arith, v.less, w.less, bit_or_lem a b);
      calm = λ e p. omega (arith, v.calm (or_first_false a b e) p, w.calm (or_second_false a b e) p);
      done = λ e p l m. by_cases (dec_lt p j)
          (λ n. omega (arith, v.done (or_first_false a b e) p l n, w.calm (or_second_false a b e) p))
          (λ n. w.done (or_second_false a b e) p (omega arith) m);
    }
  where
    bit_or_lem : (c d : Bool) → bit_of (c || d) ≤ bit_of c + bit_of d
    bit_or_lem true true = omega arith
    bit_or_lem true false = omega arith
    bit_or_lem false true = omega arith
    bit_or_lem false false = omega arith

-- a production that is not pending is passed over
pub visited_past : {s : Span} {i j : ℕ} {pending args x pending' args' x' : List ℕ} {rose : Bool}
    → Visited s i j pending args x pending' args' x' rose → get_or pending' j 0 ≡ 0
    → Visited s i (j + 1) pending args x pending' args' x' rose
visited_past {j = j} v e =
    record {
      small = v.small;
      agree = v.agree;
      came = v.came;
      rests = v.rests;
      less = v.less;
      calm = v.calm;
      done = λ f p l m. by_cases (dec_lt p j) (λ n. v.done f p l n) (λ n. let g : p ≡ j = omega arith in rw g e);
    }

-- ---- a round

-- the first row, and the first row of the next production
pub base_first : (arity : ℕ → ℕ) → 0 ≡ row_of arity 0 0
unfolding row_of sum_below
base_first arity = refl

pub base_next : (arity : ℕ → ℕ) (q base n : ℕ) → base ≡ row_of arity q 0 → n ≡ arity q → base + (n + 1) ≡ row_of arity (q + 1) 0
unfolding row_of
base_next arity q base n e f = omega (arith, e, f, row_next arity q)

-- ---- rounds

-- Between two rounds the cells x came about from x₀, and what is not pending is closed. If no count rose, nothing is pending.
pub record Settling (s : Span) (x₀ pending args x : List ℕ) (rose : Bool) : Type 0 where
  pub small : (r : ℕ) → get_or x r 0 ≤ 2
  pub agree : Exact s x args
  pub came : Raised s x₀ x
  pub resting : Resting s pending x
  pub calm : rose ≡ false → (p : ℕ) → p < s.count → get_or pending p 0 ≡ 0

-- at first all are pending
pub settling_first : {s : Span} {args x : List ℕ} (n : ℕ) → s.count ≤ n → ((r : ℕ) → get_or x r 0 ≤ 2) → Exact s x args → Settling s x (replicate n 1) args x true
settling_first n l small agree =
    record {
      small = small;
      agree = agree;
      came = as_before;
      resting = record { rest = λ p k z. absurd (omega (arith, get_or-replicate {A = ℕ} n p 1 0 (omega arith))) };
      calm = λ e. absurd (true≢false e);
    }

-- a round later
pub settling_next : {s : Span} {x₀ pending args x pending' args' x' : List ℕ} {a b : Bool}
    → Settling s x₀ pending args x a → Visited s 0 s.count pending args x pending' args' x' b → Settling s x₀ pending' args' x' b
settling_next g v =
    record {
      small = v.small;
      agree = v.agree;
      came = raised_join g.came v.came;
      resting = v.rests g.resting;
      calm = λ e p l. v.done e p (omega arith) l;
    }

-- each round but the last leaves less to spare, whatever the characters count for
pub settling_less : (counts users inner front back : List ℕ) (bare : ℕ → ℕ) (x x' : List ℕ) (rose₀ rose : Bool) → rose₀ ≡ true
    → bit_of rose + spare (span_of counts users inner front back bare) x' ≤ spare (span_of counts users inner front back bare) x
    → 2 * spare (span_of counts users inner front back (λ r. 0)) x' + bit_of rose < 2 * spare (span_of counts users inner front back (λ r. 0)) x + bit_of rose₀
unfolding spare span_of
settling_less counts users inner front back bare x x' rose₀ rose e l = omega (arith, l, ap bit_of e)
