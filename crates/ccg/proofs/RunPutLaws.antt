-- Normal ranges that are put one after the other, as they are read off.
use Prim.Native.Nat.{ℕ, ◌+◌, ◌-◌, ◌≤◌, ◌<◌}
use mathlib.Core.Path.{◌≡◌, refl, sym, ◌∙◌, ap}
use mathlib.Core.Bool.{Bool}
use mathlib.Core.List.{List, [], ◌∷◌, ◌++◌, append_assoc, append-nil}
use native.Mathlib.Omega.{arith}
use native.Mathlib.Nat.{le_refl}
use lib.ListN.{length, length-append}
use Rattle.ccg.specs.Text.{range_text}
use Rattle.charset.proofs.RunLaws.{runs_rest}
use Rattle.charset.specs.Runs.{Range, range, runs, first_run}
use Rattle.std.specs.Prelude.{None, Some}
use Rattle.common.specs.Lists.{joined}
use Rattle.writing.proofs.PutLaws.{put_none, put_append, put_same}
use Rattle.writing.specs.Put.{Put}

-- The ranges up to `from` are put; those from there on are left.
pub record RunsPut (f : ℕ → Bool) (start limit : ℕ) (l₀ : List ℕ) (at from : ℕ) (l : List ℕ) (place : ℕ) : Type 0 where
  pub done : List ℕ
  pub is_put : Put done l₀ at l place
  pub rest : done ++ joined range_text (runs f from (limit - from)) ≡ joined range_text (runs f start (limit - start))
  pub begun : start ≤ from
  pub within : from ≤ limit

no_run : (rs : List Range) → first_run rs ≡ None → rs ≡ []
unfolding first_run
no_run [] e = refl
no_run (r ∷ rs) e = let z : ◌≡◌ {A = ℕ} 0 1 = cc in absurd (omega arith)

a_run : (rs : List Range) (lo hi : ℕ) → first_run rs ≡ Some (lo, hi) → (ts : List Range) × (rs ≡ range lo hi ∷ ts)
unfolding first_run
a_run [] lo hi e = let z : ◌≡◌ {A = ℕ} 0 1 = cc in absurd (omega arith)
a_run (r ∷ rs) lo hi e =
    let p : ◌≡◌ {A = ℕ × ℕ} (r.low, r.high) (lo, hi) = cc in
    let a : r.low ≡ lo = ap (λ (q : ℕ × ℕ). q.0) p in
    let b : r.high ≡ hi = ap (λ (q : ℕ × ℕ). q.1) p in
    (rs, λ i. record { low = a i; high = b i } ∷ rs)

module _ (f : ℕ → Bool) (start limit : ℕ) (l₀ : List ℕ) (at : ℕ) where
  pub runs_put_none : start ≤ limit → RunsPut f start limit l₀ at start l₀ at
  runs_put_none h = record { done = []; is_put = put_none l₀ at; rest = refl; begun = le_refl start; within = h }

  pub runs_put_end : (from : ℕ) (l : List ℕ) (place : ℕ) → RunsPut f start limit l₀ at from l place → first_run (runs f from (limit - from)) ≡ None
      → Put (joined range_text (runs f start (limit - start))) l₀ at l place
  unfolding joined
  runs_put_end from l place p e =
      let none_left : joined range_text (runs f from (limit - from)) ≡ [] = ap (joined range_text) (no_run (runs f from (limit - from)) e) in
      put_same p.done (joined range_text (runs f start (limit - start))) l₀ l at place
      (sym (append-nil p.done) ∙ ap (λ (t : List ℕ). p.done ++ t) (sym none_left) ∙ p.rest) p.is_put

  module _ (from : ℕ) (l : List ℕ) (place lo hi : ℕ) (p : RunsPut f start limit l₀ at from l place)
      (e : first_run (runs f from (limit - from)) ≡ Some (lo, hi)) where
    tail : List Range
    tail = (a_run (runs f from (limit - from)) lo hi e).0

    is_run : runs f from (limit - from) ≡ range lo hi ∷ tail
    unfolding tail
    is_run = (a_run (runs f from (limit - from)) lo hi e).1

    facts : (tail ≡ runs f (hi + 1) (from + (limit - from) - (hi + 1))) × ((from ≤ lo) × (lo ≤ hi) × (hi < from + (limit - from)))
    facts = runs_rest f from (limit - from) (range lo hi) tail is_run

    pub run_low : from ≤ lo
    run_low = facts.1.0

    pub run_rises : lo ≤ hi
    run_rises = facts.1.1

    pub run_below : hi < limit
    run_below = omega (arith, p.within, facts.1.2)

    left : joined range_text (runs f from (limit - from)) ≡ range_text (range lo hi) ++ joined range_text (runs f (hi + 1) (limit - (hi + 1)))
    unfolding joined
    left =
        let n : from + (limit - from) - (hi + 1) ≡ limit - (hi + 1) = omega (arith, p.within) in
        ap (joined range_text) is_run ∙ ap (λ (rs : List Range). range_text (range lo hi) ++ joined range_text rs) facts.0
        ∙ ap (λ (k : ℕ). range_text (range lo hi) ++ joined range_text (runs f (hi + 1) k)) n

    pub run_room : (m : ℕ) → at + length (joined range_text (runs f start (limit - start))) ≤ m → place + length (range_text (range lo hi)) ≤ m
    run_room m h =
        let whole : length (p.done ++ (range_text (range lo hi) ++ joined range_text (runs f (hi + 1) (limit - (hi + 1))))) ≡ length (joined range_text (runs f start (limit - start))) =
        ap length (ap (λ (t : List ℕ). p.done ++ t) (sym left) ∙ p.rest) in
        omega (arith, p.is_put.next, simp length-append at whole)

    pub runs_put_more : (l' : List ℕ) (next : ℕ) → Put (range_text (range lo hi)) l place l' next → RunsPut f start limit l₀ at (hi + 1) l' next
    runs_put_more l' next q =
        record {
          done = p.done ++ range_text (range lo hi);
          is_put = put_append p.done (range_text (range lo hi)) l₀ l l' at place next p.is_put q;
          rest = append_assoc p.done (range_text (range lo hi)) (joined range_text (runs f (hi + 1) (limit - (hi + 1)))) ∙ ap (λ (t : List ℕ). p.done ++ t) (sym left) ∙ p.rest;
          begun = omega (arith, p.begun, run_low, run_rises);
          within = omega (arith, run_below);
        }
