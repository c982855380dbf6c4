-- Parts of a chart filled one after the other.
use Prim.Native.Nat.{ℕ, ◌+◌, ◌-◌, ◌*◌, ◌≤◌, ◌<◌}
use mathlib.Core.Path.{◌≡◌, ◌∙◌, subst}
use mathlib.Core.List.{List}
use native.Mathlib.Omega.{arith}
use lib.ListN.{length, get_or}
use Rattle.tables.specs.Theory.{theory_of}
use Rattle.chart.specs.Counted.{CountedBy}
use Rattle.chart.specs.Layout.{places, row_limit, chart_need}
use Rattle.chart.specs.ByEnds.{place_at, Turned}
use Rattle.column.specs.Scattered.{Scattered}
use Rattle.column.specs.Sums.{ColumnCleared}
use Rattle.fill.proofs.FillingLaws.{filling_start, filling_column, filling_begin, summing_begin, filling_end}
use Rattle.fill.specs.Filling.{SmallCells, Filling}
use Rattle.fill.specs.Tables.{rows_of, Ready, Small, Further, Onward}
use Rattle.prepare.specs.Prepared.{empty_in, back_in, Prepared}
use Rattle.theory.specs.Steps.{everything}

module _ {t b w : List ℕ} where
  -- ---- starts of a column

  pub further_join : (chart sums live chart₁ sums₁ live₁ chart₂ sums₂ live₂ : List ℕ) (j i i₁ i₂ : ℕ)
      → Further t b w chart sums live i j chart₁ sums₁ live₁ i₁ → Further t b w chart₁ sums₁ live₁ i₁ j chart₂ sums₂ live₂ i₂
      → Further t b w chart sums live i j chart₂ sums₂ live₂ i₂
  further_join chart sums live chart₁ sums₁ live₁ chart₂ sums₂ live₂ j i i₁ i₂ one two =
      record { further = λ before f s. let (f₁, s₁) = one.further before f s in two.further before f₁ s₁ }

  -- ---- columns

  pub onward_join : (chart chart₁ chart₂ : List ℕ) (j j₁ j₂ : ℕ) → Onward t b w chart j chart₁ j₁ → Onward t b w chart₁ j₁ chart₂ j₂ → Onward t b w chart j chart₂ j₂
  onward_join chart chart₁ chart₂ j j₁ j₂ one two = record { onward = λ before f. two.onward before (one.onward before f) }

  -- a column: cleared, its spans, and its empty span stored
  pub column_onward : (rows : ℕ) (chart chart₁ sums live chart₂ sums₂ live₂ chart₃ : List ℕ) (j : ℕ) → rows ≡ rows_of t → j ≤ length w
      → ColumnCleared (length w) rows j chart chart₁ → length sums ≡ row_limit * places → length live ≡ places → ((r i : ℕ) → r < rows → i < j → get_or sums (r * places + i) 0 ≡ 0)
      → Further t b w chart₁ sums live j j chart₂ sums₂ live₂ 0
      → Scattered (λ (r : ℕ). place_at (length w) r j j) (λ (r : ℕ). get_or (empty_in b) r 0) rows chart₂ chart₃
      → Onward t b w chart j chart₃ (j + 1)
  column_onward rows chart chart₁ sums live chart₂ sums₂ live₂ chart₃ j e l clear long long_live zeros spans stored =
      record {
        onward = λ before f. let g = theory_of t in
            let cleared = subst (λ (n : ℕ). ColumnCleared (length w) n j chart chart₁) e clear in
            let (f₂, s₂) = spans.further before (filling_begin g w (empty_in b) before chart chart₁ sums live j l f cleared)
            (summing_begin g w (empty_in b) before chart chart₁ sums live j l f cleared long long_live (λ r i lr li. zeros r i (omega arith) li)) in
            filling_column g w (empty_in b) before chart₂ chart₃ j l f₂ (subst (λ (n : ℕ). Scattered (λ (r : ℕ). place_at (length w) r j j) (λ (r : ℕ). get_or (empty_in b) r 0) n chart₂ chart₃) e stored);
      }

-- ---- loops

-- while the spans of column j are filled, from start i on
pub record SpansDone (t b w chart₀ sums₀ live₀ : List ℕ) (j : ℕ) (chart sums live : List ℕ) (i : ℕ) : Type 0 where
  pub spans : Further t b w chart₀ sums₀ live₀ j j chart sums live i
  pub chart_long : length chart ≡ length chart₀
  pub sums_long : length sums ≡ length sums₀
  pub live_long : length live ≡ length live₀
  pub small : Small t w chart sums j
  pub within : i ≤ j

-- while the columns before j are
pub record ColumnsDone (t b w chart₀ sums₀ live₀ chart sums live : List ℕ) (j : ℕ) : Type 0 where
  pub columns : Onward t b w chart₀ 0 chart j
  pub chart_long : length chart ≡ length chart₀
  pub sums_long : length sums ≡ length sums₀
  pub live_long : length live ≡ length live₀
  pub cells : SmallCells (length w) (rows_of t) j chart
  pub within : j ≤ length w + 1

module _ {t b w chart₀ sums₀ live₀ : List ℕ} where
  pub spans_more : (j : ℕ) (chart sums live chart' sums' live' : List ℕ) (i : ℕ) → 0 < i → SpansDone t b w chart₀ sums₀ live₀ j chart sums live i
      → Further t b w chart sums live (i - 1 + 1) j chart' sums' live' (i - 1)
      → length chart' ≡ length chart → length sums' ≡ length sums → length live' ≡ length live → Small t w chart' sums' j
      → SpansDone t b w chart₀ sums₀ live₀ j chart' sums' live' (i - 1)
  spans_more j chart sums live chart' sums' live' i l done next c s v small =
      let e : i - 1 + 1 ≡ i = omega arith in
      record {
        spans = further_join chart₀ sums₀ live₀ chart sums live chart' sums' live' j j i (i - 1) done.spans
            (subst (λ (n : ℕ). Further t b w chart sums live n j chart' sums' live' (i - 1)) e next);
        chart_long = c ∙ done.chart_long;
        sums_long = s ∙ done.sums_long;
        live_long = v ∙ done.live_long;
        small = small;
        within = let h = done.within in omega arith;
      }

  pub spans_all : (j : ℕ) (chart sums live : List ℕ) (i : ℕ) → i ≡ 0 → SpansDone t b w chart₀ sums₀ live₀ j chart sums live i
      → Further t b w chart₀ sums₀ live₀ j j chart sums live 0
  spans_all j chart sums live i e done = subst (λ (n : ℕ). Further t b w chart₀ sums₀ live₀ j j chart sums live n) e done.spans

  pub columns_more : (chart sums live chart' sums' live' : List ℕ) (j : ℕ) → j ≤ length w → ColumnsDone t b w chart₀ sums₀ live₀ chart sums live j
      → Onward t b w chart j chart' (j + 1)
      → length chart' ≡ length chart → length sums' ≡ length sums → length live' ≡ length live → SmallCells (length w) (rows_of t) (j + 1) chart'
      → ColumnsDone t b w chart₀ sums₀ live₀ chart' sums' live' (j + 1)
  columns_more chart sums live chart' sums' live' j l done next c s v cells =
      record {
        columns = onward_join chart₀ chart chart' 0 j (j + 1) done.columns next;
        chart_long = c ∙ done.chart_long;
        sums_long = s ∙ done.sums_long;
        live_long = v ∙ done.live_long;
        cells = cells;
        within = omega arith;
      }

  pub columns_all : (chart sums live : List ℕ) (j : ℕ) → j ≡ length w + 1 → ColumnsDone t b w chart₀ sums₀ live₀ chart sums live j
      → Onward t b w chart₀ 0 chart (length w + 1) × SmallCells (length w) (rows_of t) (length w + 1) chart
  columns_all chart sums live j e done = (
    subst (λ (n : ℕ). Onward t b w chart₀ 0 chart n) e done.columns,
    subst (λ (n : ℕ). SmallCells (length w) (rows_of t) n chart) e done.cells,
  )

-- tables of the same lengths will do
pub ready_kept : {t b w chart sums live : List ℕ} (chart' sums' live' : List ℕ) → length chart' ≡ length chart → length sums' ≡ length sums → length live' ≡ length live
    → Ready t b w chart sums live → Ready t b w chart' sums' live'
ready_kept chart' sums' live' c s v r =
    record {
      fits = record { tables = r.fits.tables; short = r.fits.short; long_enough = omega (arith, r.fits.long_enough) };
      prepared = r.prepared;
      sums_long = s ∙ r.sums_long;
      live_long = v ∙ r.live_long;
    }

-- all columns filled and the rows turned, the chart counts and bytes beyond it stay
module _ (t b w before chart turned : List ℕ) (prepared : Prepared t b) (all : Onward t b w before 0 chart (length w + 1))
    (small : SmallCells (length w) (rows_of t) (length w + 1) chart) (turn : Turned (length w) (rows_of t) chart turned) where
  filled : Filling (theory_of t) w (empty_in b) before chart (length w + 1) (length w + 1)
  filled = all.onward before (filling_start (theory_of t) w (empty_in b) (back_in b) prepared.empty before)

  pub filled_counts : CountedBy (theory_of t) w everything turned
  filled_counts = filling_end (theory_of t) w (empty_in b) (back_in b) prepared.empty before chart turned filled small turn

  pub filled_beyond : (k : ℕ) → chart_need t (length w) ≤ k → get_or turned k 0 ≡ get_or before k 0
  filled_beyond k l = turn.beyond k l ∙ filled.beyond k l
