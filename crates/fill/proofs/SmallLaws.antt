-- No cell and no sum is above 2, so that no sum of products overflows a byte.
use Prim.Native.Nat.{ℕ, ◌+◌, ◌*◌, ◌≤◌, ◌<◌}
use mathlib.Core.Path.{◌≡◌, sym, subst⁻¹, subst₂}
use mathlib.Core.List.{List}
use mathlib.Core.Logic.{by_cases}
use native.Mathlib.Omega.{arith}
use native.Mathlib.Decide.{ℕ_discrete, dec_lt}
use lib.ListN.{get_or}
use Rattle.chart.specs.Layout.{places, row_limit, entry_at}
use Rattle.chart.proofs.ByEndsLaws.{place_same}
use Rattle.common.proofs.RegionLaws.{front_inside}
use Rattle.chart.specs.ByEnds.{place_at}
use Rattle.column.specs.Scattered.{Scattered}
use Rattle.column.specs.Sums.{ColumnCleared, SplitsAdded}
use Rattle.common.specs.Region.{Region}
use Rattle.common.specs.Zeros.{AllZero}
use Rattle.fill.proofs.SpanFillLaws.{raised_small}
use Rattle.fill.specs.Filling.{SmallCells, SmallSums}
use Rattle.span.specs.Span.{Span}
use Rattle.span.specs.Tables.{Settled}

-- settled cells
pub settled_small : (s : Span) (x₀ args x : List ℕ) → AllZero row_limit x₀ → Settled s x₀ args x → (r : ℕ) → get_or x r 0 ≤ 2
settled_small s x₀ args x zeros settled r = raised_small s x₀ x settled.came (λ k. omega (arith, zeros.zeros k)) r

module _ (n rows j : ℕ) (jn : j ≤ n) where
  -- a span of the column stored
  pub small_stored : (i : ℕ) (x chart chart' : List ℕ) → i ≤ j → ((r : ℕ) → get_or x r 0 ≤ 2) → Scattered (λ (r : ℕ). place_at n r i j) (λ (r : ℕ). get_or x r 0) rows chart chart'
      → SmallCells n rows (j + 1) chart → SmallCells n rows (j + 1) chart'
  unfolding entry_at
  small_stored i x chart chart' ij small stored cells =
      record {
        small_cells = λ r i' j' lr l h. elim (ℕ_discrete i' i) [
          | yes a ↦ elim (ℕ_discrete j' j) [
            | yes b ↦ subst₂ (λ (u v : ℕ). entry_at chart' (place_at n r u v) ≤ 2) (sym a) (sym b) (omega (arith, stored.here r lr, small r))
            | no b ↦ omega (arith, kept r i' j' l (omega arith) (λ u v. b v), cells.small_cells r i' j' lr l h)
          ]
          | no a ↦ omega (arith, kept r i' j' l (omega arith) (λ u v. a u), cells.small_cells r i' j' lr l h)
        ];
      }
    where
      kept : (r i' j' : ℕ) → i' < j' → j' ≤ n → (i' ≡ i → j' ≡ j → ⊥) → entry_at chart' (place_at n r i' j') ≡ entry_at chart (place_at n r i' j')
      kept r i' j' l h apart =
          stored.others (place_at n r i' j')
          (λ k o e. let (a, b, c) = place_same n r k i' i j' j (omega arith) h ij jn e in apart b c)

  -- the empty span of the column stored
  pub small_diagonal : (x chart chart' : List ℕ) → Scattered (λ (r : ℕ). place_at n r j j) (λ (r : ℕ). get_or x r 0) rows chart chart'
      → SmallCells n rows (j + 1) chart → SmallCells n rows (j + 1) chart'
  unfolding entry_at
  small_diagonal x chart chart' stored cells =
      record {
        small_cells = λ r i' j' lr l h. omega (
          arith,
          stored.others (place_at n r i' j') (λ k o e. let (a, b, c) = place_same n r k i' j j' j (omega arith) (omega arith) (omega arith) jn e in omega arith),
          cells.small_cells r i' j' lr l h,
        );
      }

  -- the column cleared
  pub small_cleared : (chart chart' : List ℕ) → ColumnCleared n rows j chart chart' → SmallCells n rows j chart → SmallCells n rows (j + 1) chart'
  unfolding entry_at
  small_cleared chart chart' clear cells =
      record {
        small_cells = λ r i' j' lr l h. elim (ℕ_discrete j' j) [
          | yes e ↦ subst⁻¹ (λ (m : ℕ). entry_at chart' (place_at n r i' m) ≤ 2) e (omega (arith, clear.zeros r i' lr (omega arith)))
          | no e ↦ let earlier : j' < j = by_cases (dec_lt j' j) (λ o. o) (λ o. absurd (e (omega arith))) in
              omega (arith, clear.others (place_at n r i' j') (λ r' k lr' lk f. let (a, b, c) = place_same n r r' i' k j' j (omega arith) (omega arith) (omega arith) jn f in e c), cells.small_cells r i' j' lr l earlier)
        ];
      }

-- splits added
pub small_added : (n rows m j : ℕ) (chart args sums live sums' live' : List ℕ) → m ≤ places → j ≤ places → SplitsAdded n rows m chart args sums live sums' live'
    → SmallSums rows j sums → SmallSums rows j sums'
small_added n rows m j chart args sums live sums' live' lm lj added small =
    record {
      small_sums = λ r i lr li. by_cases (dec_lt i m)
          (λ l. omega (arith, added.added r i lr l))
          (λ l. omega (arith, added.others (r * places + i) (λ r' i' lr' li' e. omega arith), small.small_sums r i lr li));
    }

-- sums cleared
pub sums_zero : (rows j : ℕ) (sums₀ sums : List ℕ) → j ≤ places → Region (λ (k : ℕ) (v : ℕ). v ≡ 0) 0 0 (rows * places) sums₀ sums → (r i : ℕ) → r < rows → i < j → get_or sums (r * places + i) 0 ≡ 0
sums_zero rows j sums₀ sums l clear r i lr li = front_inside (λ (k : ℕ) (v : ℕ). v ≡ 0) (rows * places) sums₀ sums clear (r * places + i) (omega arith)

pub small_zero : (rows j : ℕ) (sums : List ℕ) → ((r i : ℕ) → r < rows → i < j → get_or sums (r * places + i) 0 ≡ 0) → SmallSums rows j sums
small_zero rows j sums zeros = record { small_sums = λ r i lr li. omega (arith, zeros r i lr li) }
