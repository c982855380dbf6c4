-- Laws of normal ranges: how a run is read off, and that `runs` is the one normal form of a set (000, Proposition 3.2).
use Prim.Native.Nat.{ℕ, zero, suc, ◌+◌, ◌-◌, ◌≤◌, ◌<◌}
use mathlib.Core.Path.{◌≡◌, refl, sym, ◌∙◌, ap, subst}
use mathlib.Core.Bool.{Bool, false, true, cond, ◌||◌, true≢false, or_assoc}
use mathlib.Core.List.{List, [], ◌∷◌, ◌++◌}
use mathlib.Core.Logic.{by_cases}
use native.Mathlib.Omega.{arith}
use native.Mathlib.Decide.{ℕ_discrete, dec_lt}
use native.Mathlib.Nat.{add-zero, add-suc, zero-add, suc-add, le_refl}
use native.Mathlib.Numerals.{add-one}
use lib.Dec.{eqb}
use lib.ListN.{length}
use borrow.Author.Tests.{le-leb, lt-leb, eq-eqb, ne_eqb}
use Rattle.std.specs.Prelude.{None, Some}
use Rattle.common.proofs.BelowLaws.{between_below, between_above, between_in}
use Rattle.charset.specs.Runs.{Range, range, with_number, runs, Apart, covered, Normal, first_run}
use Rattle.charset.specs.Set.{in_range}
use Rattle.charset.specs.Sought.{Sought}

-- ---- reading a run off

abbrev Above : ℕ → List Range → Type 0
Above i [] = Unit {0}
Above i (r ∷ rs) = i ≤ r.low

above_less : (i : ℕ) (rs : List Range) → Above (suc i) rs → Above i rs
above_less i [] h = tt
above_less i (r ∷ rs) h = omega arith

with_number_above : (i : ℕ) (rs : List Range) → Above i (with_number i rs)
unfolding with_number
with_number_above i [] = le_refl i
with_number_above i (r ∷ rs) = elim (eqb (suc i) r.low) as (λ (b : Bool). Above i (cond b (range i r.high ∷ rs) (range i i ∷ r ∷ rs))) [ true ↦ le_refl i | false ↦ le_refl i ]

with_number_apart : (i : ℕ) (rs : List Range) → Above (suc (suc i)) rs → with_number i rs ≡ range i i ∷ rs
unfolding with_number
with_number_apart i [] h = refl
with_number_apart i (r ∷ rs) h = rw (ne_eqb (suc i) r.low (λ e. omega arith)) refl

with_number_touching : (i h : ℕ) (rs : List Range) → with_number i (range (suc i) h ∷ rs) ≡ range i h ∷ rs
unfolding with_number
with_number_touching i h rs = rw (eq-eqb (suc i) (suc i) refl) refl

module _ (f : ℕ → Bool) where
  runs_off : (i n : ℕ) → f i ≡ false → runs f i (suc n) ≡ runs f (suc i) n
  unfolding runs
  runs_off i n e = rw e refl

  runs_on : (i n : ℕ) → f i ≡ true → runs f i (suc n) ≡ with_number i (runs f (suc i) n)
  unfolding runs
  runs_on i n e = rw e refl

  runs_above : (i n : ℕ) → Above i (runs f i n)
  unfolding runs
  runs_above i zero = tt
  runs_above i (suc n) =
      let below = runs_above (suc i) n in
      elim (f i) as (λ (b : Bool). Above i (cond b (with_number i (runs f (suc i) n)) (runs f (suc i) n)))
      [ true ↦ with_number_above i (runs f (suc i) n) | false ↦ above_less i (runs f (suc i) n) below ]

  -- numbers that are not in the set are passed over
  pub runs_skip : (m i n : ℕ) → ((k : ℕ) → i ≤ k → k < i + m → f k ≡ false) → runs f i (m + n) ≡ runs f (i + m) n
  runs_skip zero i n off = rw (zero-add, add-zero) refl
  runs_skip (suc m) i n off =
      rw (suc-add m n, runs_off i (m + n) (off i (le_refl i) (omega arith)), add-suc i m, ← (suc-add i m))
      (runs_skip m (suc i) n (λ k l h. off k (omega arith) (omega arith)))

  beyond_gap : (i n : ℕ) → (0 < n → f (suc i) ≡ false) → Above (suc (suc i)) (runs f (suc i) n)
  unfolding runs
  beyond_gap i zero gap = tt
  beyond_gap i (suc n) gap = rw (runs_off (suc i) n (gap (omega arith))) (runs_above (suc (suc i)) n)

  -- numbers in the set up to a gap are one range
  pub runs_take : (m i n : ℕ) → ((k : ℕ) → i ≤ k → k ≤ i + m → f k ≡ true) → (0 < n → f (suc (i + m)) ≡ false)
      → runs f i (suc m + n) ≡ range i (i + m) ∷ runs f (suc (i + m)) n
  runs_take zero i n on gap =
      rw (suc-add zero n, zero-add n, runs_on i n (on i (le_refl i) (omega arith)), add-zero i)
      (with_number_apart i (runs f (suc i) n) (beyond_gap i n (λ h. rw add-zero at (gap h))))
  runs_take (suc m) i n on gap =
      let e : suc (i + m) ≡ i + suc m = omega arith in
      let rest : runs f (suc i) (suc m + n) ≡ range (suc i) (suc (i + m)) ∷ runs f (suc (suc (i + m))) n =
      rw (suc-add i m) at (runs_take m (suc i) n (λ k l h. on k (omega arith) (omega arith)) (λ h. rw (suc-add i m, e) (gap h))) in
      rw (suc-add (suc m) n, runs_on i (suc m + n) (on i (le_refl i) (omega arith)), rest, with_number_touching, e) refl

-- ---- the first run, from what the two searches found

module _ (limit : ℕ) (f : ℕ → Bool) (from : ℕ) where
  pub first_run_end : {low : ℕ} → Sought limit f true from low → limit ≤ low → None ≡ first_run (runs f from (limit - from))
  unfolding first_run runs
  first_run_end {low} s h =
      let off : runs f from (limit - from) ≡ [] =
      rw (add-zero (limit - from)) at (runs_skip f (limit - from) from 0 (λ k l m. s.passed k l (omega (arith, s.within)))) in
      rw off refl

  pub first_run_lem : {low stop : ℕ} → Sought limit f true from low → low < limit → Sought limit f false (low + 1) stop
      → Some (low, stop - 1) ≡ first_run (runs f from (limit - from))
  unfolding first_run
  first_run_lem {low} {stop} s h t =
      let m = low - from in
      let k = stop - suc low in
      let n = limit - stop in
      let a : limit - from ≡ m + (suc k + n) = omega (arith, s.after, t.after, t.within) in
      let b : from + m ≡ low = omega (arith, s.after) in
      let e : low + k ≡ stop - 1 = omega arith in
      let up : suc (low + k) ≡ stop = omega arith in
      let skip = runs_skip f m from (suc k + n) (λ j l r. s.passed j l (omega arith)) in
      let take = runs_take f k low n (λ j l r. by_cases (dec_lt low j) (λ o. t.passed j (omega arith) (omega arith)) (λ o. let q : low ≡ j = omega arith in ap f (sym q) ∙ s.found h)) (λ p. rw up (t.found (omega arith))) in
      rw (a, skip, b, take, e) refl

-- ---- `runs` is a normal form of the set

in_one : (i c : ℕ) → in_range i i c ≡ eqb i c
unfolding in_range
in_one i c =
    elim (ℕ_discrete i c) [
      | yes e ↦ rw (le-leb i c (omega arith), le-leb c i (omega arith), eq-eqb i c e) refl
      | no n ↦ by_cases (dec_lt i c)
          (λ l. rw (le-leb i c (omega arith), lt-leb c i l, ne_eqb i c n) refl)
          (λ m. rw (lt-leb i c (omega arith), ne_eqb i c n) refl)
    ]

-- one more at the low end of a range
in_longer : (i h c : ℕ) → i < h → in_range i h c ≡ (eqb i c || in_range (suc i) h c)
unfolding in_range
in_longer i h c l =
    elim (ℕ_discrete i c) [
      | yes e ↦ rw (le-leb i c (omega arith), le-leb c h (omega arith), eq-eqb i c e) refl
      | no n ↦ by_cases (dec_lt i c)
          (λ m. rw (le-leb i c (omega arith), ne_eqb i c n, le-leb (suc i) c m) refl)
          (λ m. rw (lt-leb i c (omega arith), ne_eqb i c n, lt-leb (suc i) c (omega arith)) refl)
    ]

with_number_normal : (i : ℕ) (rs : List Range) → Above (suc i) rs → Normal rs → Normal (with_number i rs)
unfolding with_number Normal Apart
with_number_normal i [] a n = (le_refl i, tt, tt)
with_number_normal i (r ∷ rs) a n =
    elim (ℕ_discrete (suc i) r.low) [
      | yes e ↦ rw (eq-eqb (suc i) r.low e) (omega arith, n.1, n.2)
      | no e ↦ rw (ne_eqb (suc i) r.low e) (le_refl i, omega arith, n)
    ]

with_number_covered : (i : ℕ) (rs : List Range) (c : ℕ) → Normal rs → covered (with_number i rs) c ≡ (eqb i c || covered rs c)
unfolding with_number covered Normal
with_number_covered i [] c n = rw (in_one i c) refl
with_number_covered i (r ∷ rs) c n =
    elim (ℕ_discrete (suc i) r.low) [
      | yes e ↦ rw (eq-eqb (suc i) r.low e, in_longer i r.high c (omega arith), e) (or_assoc (eqb i c) (in_range r.low r.high c) (covered rs c))
      | no e ↦ rw (ne_eqb (suc i) r.low e, in_one i c) refl
    ]

module _ (f : ℕ → Bool) where
  pub runs_normal : (i n : ℕ) → Normal (runs f i n)
  unfolding runs Normal
  runs_normal i zero = tt
  runs_normal i (suc n) =
      let rest = runs_normal (suc i) n in
      elim (f i) as (λ (b : Bool). Normal (cond b (with_number i (runs f (suc i) n)) (runs f (suc i) n)))
      [ true ↦ with_number_normal i (runs f (suc i) n) (runs_above f (suc i) n) rest | false ↦ rest ]

  -- outside the numbers asked nothing is covered
  pub runs_outside : (i n c : ℕ) → (i ≤ c → c < i + n → ⊥) → covered (runs f i n) c ≡ false
  unfolding runs covered
  runs_outside i zero c out = refl
  runs_outside i (suc n) c out =
      let rest = runs_outside (suc i) n c (λ l h. out (omega arith) (omega arith)) in
      elim (f i) as (λ (b : Bool). covered (cond b (with_number i (runs f (suc i) n)) (runs f (suc i) n)) c ≡ false) [
        | true ↦ rw (with_number_covered i (runs f (suc i) n) c (runs_normal (suc i) n), rest, ne_eqb i c (λ e. out (omega arith) (omega arith))) refl
        | false ↦ rest
      ]

  -- inside them the ranges cover exactly the set
  pub runs_covered : (i n c : ℕ) → i ≤ c → c < i + n → covered (runs f i n) c ≡ f c
  unfolding runs covered
  runs_covered i zero c l h = absurd (omega arith)
  runs_covered i (suc n) c l h =
      elim (ℕ_discrete i c) [
        | yes e ↦ subst (λ (k : ℕ). covered (runs f i (suc n)) k ≡ f k) e (at_first i n)
        | no e ↦ (later i n c e ∙ runs_covered (suc i) n c (omega arith) (omega arith))
      ]
    where
      at_first : (i n : ℕ) → covered (runs f i (suc n)) i ≡ f i
      at_first i n =
          let past = runs_outside (suc i) n i (λ l h. omega arith) in
          elim (f i) as (λ (b : Bool). covered (cond b (with_number i (runs f (suc i) n)) (runs f (suc i) n)) i ≡ b) [
            | true ↦ rw (with_number_covered i (runs f (suc i) n) i (runs_normal (suc i) n), eq-eqb i i refl) refl
            | false ↦ past
          ]

      later : (i n c : ℕ) → (i ≡ c → ⊥) → covered (runs f i (suc n)) c ≡ covered (runs f (suc i) n) c
      later i n c e =
          elim (f i) as (λ (b : Bool). covered (cond b (with_number i (runs f (suc i) n)) (runs f (suc i) n)) c ≡ covered (runs f (suc i) n) c) [
            | true ↦ rw (with_number_covered i (runs f (suc i) n) c (runs_normal (suc i) n), ne_eqb i c e) refl
            | false ↦ refl
          ]

-- ---- 000, Proposition 3.2: a set has one normal form

above_apart : (e c : ℕ) (rs : List Range) → c ≤ suc e → Apart e rs → Above (suc c) rs
unfolding Apart
above_apart e c [] h a = tt
above_apart e c (r ∷ rs) h a = omega arith

not_covered_below : (rs : List Range) (c : ℕ) → Normal rs → Above (suc c) rs → covered rs c ≡ false
unfolding covered Normal in_range
not_covered_below [] c n a = refl
not_covered_below (r ∷ rs) c n a =
    rw (between_below r.low r.high c a) (not_covered_below rs c n.2 (above_apart r.high c rs (omega arith) n.1))

module _ (r : Range) (rs : List Range) (n : Normal (r ∷ rs)) where
  covered_in : (c : ℕ) → r.low ≤ c → c ≤ r.high → covered (r ∷ rs) c ≡ true
  unfolding covered in_range
  covered_in c p q = rw (between_in r.low r.high c p q) refl

  covered_past : (c : ℕ) → r.high < c → covered (r ∷ rs) c ≡ covered rs c
  unfolding covered in_range
  covered_past c p = rw (between_above r.low r.high c p) refl

  gap_after : (c : ℕ) → c ≤ suc r.high → covered rs c ≡ false
  unfolding Normal
  gap_after c p = not_covered_below rs c n.2 (above_apart r.high c rs p n.1)

rising : (r : Range) (rs : List Range) → Normal (r ∷ rs) → r.low ≤ r.high
unfolding Normal
rising r rs n = n.0

rest_normal : (r : Range) (rs : List Range) → Normal (r ∷ rs) → Normal rs
unfolding Normal
rest_normal r rs n = n.2

-- neither the first low ends nor the first high ends of two normal forms of one set part
module _ (r : Range) (rs : List Range) (n : Normal (r ∷ rs)) (s : Range) (ss : List Range) (m : Normal (s ∷ ss))
    (same : (c : ℕ) → covered (r ∷ rs) c ≡ covered (s ∷ ss) c) where
  low_not_below : r.low < s.low → ⊥
  low_not_below l =
      true≢false
      (sym (covered_in r rs n r.low (le_refl r.low) (rising r rs n)) ∙ same r.low ∙ not_covered_below (s ∷ ss) r.low m l)

  high_not_below : r.low ≡ s.low → r.high < s.high → ⊥
  high_not_below e l =
      let i = rising r rs n in
      true≢false
      (sym (covered_in s ss m (suc r.high) (omega arith) l) ∙ sym (same (suc r.high))
      ∙ covered_past r rs n (suc r.high) (le_refl (suc r.high)) ∙ gap_after r rs n (suc r.high) (le_refl (suc r.high)))

  rest_same : r.high ≡ s.high → (c : ℕ) → covered rs c ≡ covered ss c
  rest_same e c =
      by_cases (dec_lt r.high c)
      (λ l. sym (covered_past r rs n c l) ∙ same c ∙ covered_past s ss m c (omega arith))
      (λ l. gap_after r rs n c (omega arith) ∙ sym (gap_after s ss m c (omega arith)))

meets : {a b : ℕ} → (a < b → ⊥) → (b < a → ⊥) → a ≡ b
meets {a} {b} f g = by_cases (dec_lt a b) (λ l. absurd (f l)) (λ p. by_cases (dec_lt b a) (λ l. absurd (g l)) (λ q. omega arith))

not_both : {A : Type 0} → true ≡ false → A
not_both e = absurd (true≢false e)

pub normal_unique : (rs ss : List Range) → Normal rs → Normal ss → ((c : ℕ) → covered rs c ≡ covered ss c) → rs ≡ ss
unfolding covered
normal_unique [] [] n m same = refl
normal_unique [] (s ∷ ss) n m same = not_both (sym (covered_in s ss m s.low (le_refl s.low) (rising s ss m)) ∙ sym (same s.low))
normal_unique (r ∷ rs) [] n m same = not_both (sym (covered_in r rs n r.low (le_refl r.low) (rising r rs n)) ∙ same r.low)
normal_unique (r ∷ rs) (s ∷ ss) n m same =
    let back : (c : ℕ) → covered (s ∷ ss) c ≡ covered (r ∷ rs) c = λ c. sym (same c) in
    let l : r.low ≡ s.low = meets (low_not_below r rs n s ss m same) (low_not_below s ss m r rs n back) in
    let h : r.high ≡ s.high = meets (high_not_below r rs n s ss m same l) (high_not_below s ss m r rs n back (sym l)) in
    let t = normal_unique rs ss (rest_normal r rs n) (rest_normal s ss m) (rest_same r rs n s ss m same h) in
    λ i. record { low = l i; high = h i } ∷ t i

-- ---- two sets that agree, and one set in two parts

-- sets that agree on the numbers asked have the same ranges
pub runs_same : (f g : ℕ → Bool) (i n : ℕ) → ((k : ℕ) → i ≤ k → k < i + n → f k ≡ g k) → runs f i n ≡ runs g i n
unfolding runs
runs_same f g i zero h = refl
runs_same f g i (suc n) h =
    rw (h i (le_refl i) (omega arith), runs_same f g (suc i) n (λ k l m. h k (omega arith) (omega arith))) refl

above_lower : (i j : ℕ) (rs : List Range) → i ≤ j → Above j rs → Above i rs
above_lower i j [] l h = tt
above_lower i j (r ∷ rs) l h = omega arith

with_number_append_apart : (i : ℕ) (rs ss : List Range) → Above (suc (suc i)) ss → with_number i (rs ++ ss) ≡ with_number i rs ++ ss
unfolding with_number
with_number_append_apart i [] ss h = with_number_apart i ss h
with_number_append_apart i (r ∷ rs) ss h =
    elim (eqb (suc i) r.low) as (λ (b : Bool). cond b (range i r.high ∷ rs ++ ss) (range i i ∷ r ∷ rs ++ ss) ≡ cond b (range i r.high ∷ rs) (range i i ∷ r ∷ rs) ++ ss)
    [ true ↦ refl | false ↦ refl ]

module _ (f : ℕ → Bool) where
  above_gap : (i n : ℕ) → f i ≡ false → Above (suc i) (runs f i n)
  unfolding runs
  above_gap i zero e = tt
  above_gap i (suc n) e = rw e (runs_above f (suc i) n)

  -- at a number that is not in the set the ranges part
  pub runs_split : (m i n : ℕ) → f (i + m) ≡ false → runs f i (m + n) ≡ runs f i m ++ runs f (i + m) n
  unfolding runs
  runs_split zero i n e = rw (zero-add, add-zero) refl
  runs_split (suc m) i n e =
      let up : i + suc m ≡ suc i + m = omega arith in
      let gap : f (suc i + m) ≡ false = rw up at e in
      let rs = runs f (suc i) m in
      let ss = runs f (suc i + m) n in
      rw (suc-add m n, runs_split m (suc i) n gap, up)
      (elim (f i) as (λ (b : Bool). cond b (with_number i (rs ++ ss)) (rs ++ ss) ≡ cond b (with_number i rs) rs ++ ss) [
        | true ↦ with_number_append_apart i rs ss (above_lower (suc (suc i)) (suc (suc i + m)) ss (omega arith) (above_gap (suc i + m) n gap))
        | false ↦ refl
      ])

-- ---- the ranges behind the first

-- what is known of the first range, and of those behind it
abbrev Parted : (ℕ → Bool) → ℕ → ℕ → List Range → Type 0
Parted f i n [] = Unit {0}
Parted f i n (r ∷ rs) = (rs ≡ runs f (r.high + 1) (i + n - (r.high + 1))) × ((i ≤ r.low) × (r.low ≤ r.high) × (r.high < i + n))

with_number_parted : (f : ℕ → Bool) (i n : ℕ) (rs : List Range) → rs ≡ runs f (suc i) n → Parted f (suc i) n rs → Parted f i (suc n) (with_number i rs)
unfolding with_number
with_number_parted f i n [] e h =
    let rest : i + suc n - (i + 1) ≡ n = omega arith in
    (rw (rest, add-one) e, (le_refl i, le_refl i, omega arith))
with_number_parted f i n (r ∷ rs) e h =
    let rest : i + suc n - (i + 1) ≡ n = omega arith in
    let over : i + suc n ≡ suc i + n = omega arith in
    elim (eqb (suc i) r.low) as (λ (b : Bool). Parted f i (suc n) (cond b (range i r.high ∷ rs) (range i i ∷ r ∷ rs))) [
      | true ↦ (rw over h.0, (le_refl i, omega arith, omega arith))
      | false ↦ (rw (rest, add-one) e, (le_refl i, le_refl i, omega arith))
    ]

runs_parted : (f : ℕ → Bool) (i n : ℕ) → Parted f i n (runs f i n)
unfolding runs
runs_parted f i zero = tt
runs_parted f i (suc n) =
    let rest = runs_parted f (suc i) n in
    elim (f i) as (λ (b : Bool). Parted f i (suc n) (cond b (with_number i (runs f (suc i) n)) (runs f (suc i) n)))
    [ true ↦ with_number_parted f i n (runs f (suc i) n) refl rest | false ↦ parted_later f i n (runs f (suc i) n) rest ]
  where
    parted_later : (f : ℕ → Bool) (i n : ℕ) (rs : List Range) → Parted f (suc i) n rs → Parted f i (suc n) rs
    parted_later f i n [] h = tt
    parted_later f i n (r ∷ rs) h =
        let over : i + suc n ≡ suc i + n = omega arith in
        (rw over h.0, (omega arith, omega arith, omega arith))

-- behind the first range come the ranges of the numbers above it
pub runs_rest : (f : ℕ → Bool) (i n : ℕ) (r : Range) (rs : List Range) → runs f i n ≡ r ∷ rs
    → (rs ≡ runs f (r.high + 1) (i + n - (r.high + 1))) × ((i ≤ r.low) × (r.low ≤ r.high) × (r.high < i + n))
runs_rest f i n r rs e = subst (Parted f i n) e (runs_parted f i n)

-- ---- a set of one number

pub runs_one : (c i n : ℕ) → i ≤ c → c < i + n → runs (eqb c) i n ≡ range c c ∷ []
unfolding runs
runs_one c i n l h =
    let m = c - i in
    let k = i + n - suc c in
    let parts : n ≡ m + (suc 0 + k) = omega arith in
    let at : i + m ≡ c = omega arith in
    let skip = runs_skip (eqb c) m i (suc 0 + k) (λ j p q. ne_eqb c j (λ e. omega arith)) in
    let one = runs_take (eqb c) 0 c k (λ j p q. eq-eqb c j (omega arith)) (λ p. ne_eqb c (suc (c + 0)) (λ e. omega arith)) in
    let rest : runs (eqb c) (suc c) k ≡ [] = rw (add-zero k) at (runs_skip (eqb c) k (suc c) 0 (λ j p q. ne_eqb c j (λ e. omega arith))) in
    rw (parts, skip, at, one, add-zero c, rest) refl

-- ---- how many ranges, and how large their ends

with_number_count : (i : ℕ) (rs : List Range) → length (with_number i rs) ≤ suc (length rs)
unfolding with_number
with_number_count i [] = le_refl 1
with_number_count i (r ∷ rs) =
    elim (eqb (suc i) r.low) as (λ (b : Bool). length (cond b (range i r.high ∷ rs) (range i i ∷ r ∷ rs)) ≤ suc (suc (length rs)))
    [ true ↦ omega arith | false ↦ le_refl (suc (suc (length rs))) ]

-- All ends of the ranges are below m.
abbrev pub Bounded : ℕ → List Range → Type 0
Bounded m [] = Unit {0}
Bounded m (r ∷ rs) = (r.low < m) × (r.high < m) × Bounded m rs

with_number_bound : (m i : ℕ) (rs : List Range) → i < m → Bounded m rs → Bounded m (with_number i rs)
unfolding with_number
with_number_bound m i [] l h = (l, l, tt)
with_number_bound m i (r ∷ rs) l h =
    elim (eqb (suc i) r.low) as (λ (b : Bool). Bounded m (cond b (range i r.high ∷ rs) (range i i ∷ r ∷ rs)))
    [ true ↦ (l, h.1, h.2) | false ↦ (l, l, h) ]

module _ (f : ℕ → Bool) where
  pub runs_count : (i n : ℕ) → length (runs f i n) ≤ n
  unfolding runs
  runs_count i zero = le_refl 0
  runs_count i (suc n) =
      let rest = runs_count (suc i) n in
      elim (f i) as (λ (b : Bool). length (cond b (with_number i (runs f (suc i) n)) (runs f (suc i) n)) ≤ suc n)
      [ true ↦ omega (arith, with_number_count i (runs f (suc i) n)) | false ↦ omega arith ]

  pub runs_bound : (i n : ℕ) → Bounded (i + n) (runs f i n)
  unfolding runs
  runs_bound i zero = tt
  runs_bound i (suc n) =
      let over : i + suc n ≡ suc i + n = omega arith in
      let rest : Bounded (i + suc n) (runs f (suc i) n) = rw over (runs_bound (suc i) n) in
      elim (f i) as (λ (b : Bool). Bounded (i + suc n) (cond b (with_number i (runs f (suc i) n)) (runs f (suc i) n)))
      [ true ↦ with_number_bound (i + suc n) i (runs f (suc i) n) (omega arith) rest | false ↦ rest ]
