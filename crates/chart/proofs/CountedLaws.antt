-- What a filled chart holds: its entries are its bytes as far as it reaches, and they are determined.
use Prim.Native.Nat.{ℕ, zero, suc, ◌+◌, ◌-◌, ◌*◌, ◌/◌, ◌%◌, ◌≤◌, ◌<◌}
use mathlib.Core.Path.{◌≡◌, refl, sym, ◌∙◌, ap₂, subst⁻¹}
use mathlib.Core.List.{List}
use mathlib.Core.Logic.{by_cases}
use native.Mathlib.Omega.{arith}
use native.Mathlib.Decide.{dec_lt}
use native.Mathlib.Nat.{mod-lt, div-add-mod', div-lt_iff_lt-mul}
use lib.ListN.{length, take}
use lib.Seq.{get_or-take, ext_get_or}
use Rattle.chart.proofs.LayoutLaws.{start_end, cell_below, row_in}
use Rattle.chart.specs.Counted.{entry_of, Counted}
use Rattle.chart.specs.Layout.{row_of, span_count, start_at, cell_at, chart_bytes, entry_at}
use Rattle.tables.specs.Layout.{row_count}
use Rattle.common.specs.Below.{sum_below}
use Rattle.theory.proofs.CountLaws.{counts_unique}
use Rattle.theory.specs.Counts.{Counts}
use Rattle.theory.specs.Steps.{Wanted, everything}
use Rattle.theory.specs.Tree.{Forest}

-- ---- every place of the chart is the place of a cell

-- A number below a sum stands in one of its parts: it is what comes before the part, and a rest below the part.
sum_place : (f : ℕ → ℕ) (n k : ℕ) → k < sum_below n f → (i : ℕ) × (e : ℕ) × (i < n) × (e < f i) × (k ≡ sum_below i f + e)
unfolding sum_below
sum_place f zero k l = absurd (omega arith)
sum_place f (suc n) k l =
    by_cases (dec_lt k (sum_below n f))
    (λ m. let (i, e, a, b, q) = sum_place f n k m in (i, e, omega arith, b, q))
    (λ m. (n, k - sum_below n f, omega arith, omega arith, omega arith))

-- every row is the row of a production and a count of its arguments
row_found : (arity : ℕ → ℕ) (count row : ℕ) → row < row_count arity count → (p : ℕ) × (d : ℕ) × (p < count) × (d ≤ arity p) × (row ≡ row_of arity p d)
unfolding row_count row_of
row_found arity count row l =
    let (p, d, a, b, q) = sum_place (λ r. arity r + 1) count row l in
    (p, d, a, omega arith, q)

-- every place of a row is the place of a start and an end
span_found : (n m : ℕ) → m < span_count n → (i : ℕ) × (j : ℕ) × (i ≤ j) × (j ≤ n) × (m ≡ start_at n i + (j - i))
unfolding start_at
span_found n m l =
    let (i, e, a, b, q) = sum_place (λ k. n + 1 - k) (n + 1) m (rw (start_end n) l) in
    (i, i + e, omega arith, omega arith, omega arith)

-- a row has a cell at least
span_some : (n : ℕ) → 0 < span_count n
unfolding span_count
span_some n = omega arith

-- every place of the chart is the place of a cell
pub cell_found : (arity : ℕ → ℕ) (count n k : ℕ) → k < chart_bytes arity count n
    → (p : ℕ) × (d : ℕ) × (i : ℕ) × (j : ℕ) × (p < count) × (d ≤ arity p) × (i ≤ j) × (j ≤ n) × (k ≡ cell_at n (row_of arity p d) i j)
unfolding cell_at
cell_found arity count n k l =
    let s = span_some n in
    let (p, d, a, b, q) = row_found arity count (k / span_count n) ((div-lt_iff_lt-mul s).1 l) in
    let (i, j, h, m, o) = span_found n (k % span_count n) (mod-lt k s) in
    (p, d, i, j, a, b, h, m, sym (div-add-mod' k (span_count n)) ∙ (ap₂ (λ (x y : ℕ). x * span_count n + y) q o ∙ omega arith))

-- ---- entries

-- the bytes that a chart needs hold all of its entries
entry_front : (arity : ℕ → ℕ) (count n : ℕ) (chart : List ℕ) (p d i j : ℕ) → p < count → d ≤ arity p → i ≤ j → j ≤ n
    → entry_of arity n (take (chart_bytes arity count n) chart) p d i j ≡ entry_of arity n chart p d i j
unfolding entry_of entry_at
entry_front arity count n chart p d i j lp ld ij jn =
    get_or-take (chart_bytes arity count n) chart (cell_at n (row_of arity p d) i j) 0 (cell_below n (row_of arity p d) (row_count arity count) i j (row_in arity p d count lp ld) ij jn)

module _ (E : ℕ → ℕ → ℕ → ℕ → Forest → Type 0) (arity : ℕ → ℕ) (count n : ℕ) where
  pub counted_front : (wanted : Wanted) (chart : List ℕ) → Counted E arity count n wanted chart → Counted E arity count n wanted (take (chart_bytes arity count n) chart)
  counted_front wanted chart c =
      record {
        counts = λ p d i j lp ld ij jn wp. subst⁻¹ (Counts (E p d i j)) (entry_front arity count n chart p d i j lp ld ij jn) (c.counts p d i j lp ld ij jn wp);
        unwanted = λ p d i j lp ld ij jn no. entry_front arity count n chart p d i j lp ld ij jn ∙ c.unwanted p d i j lp ld ij jn no;
      }

  -- two charts with the same counts everywhere are the same
  pub counted_unique : (a b : List ℕ) → length a ≡ chart_bytes arity count n → length b ≡ chart_bytes arity count n → Counted E arity count n everything a → Counted E arity count n everything b → a ≡ b
  unfolding entry_of entry_at
  counted_unique a b long long' c c' =
      ext_get_or 0 a b (long ∙ sym long')
      (λ k l. let (p, d, i, j, lp, ld, ij, jn, e) = cell_found arity count n k (omega (arith, long)) in
      rw e (counts_unique (E p d i j) (entry_of arity n a p d i j) (entry_of arity n b p d i j) (c.counts p d i j lp ld ij jn refl) (c'.counts p d i j lp ld ij jn refl)))
