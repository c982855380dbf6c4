-- What the functions of one span promise, put together: the column is done one start further.
use Prim.Native.Nat.{ℕ, ◌+◌, ◌*◌, ◌≤◌, ◌<◌}
use mathlib.Core.Path.{◌≡◌, ◌∙◌, ap, subst}
use mathlib.Core.Bool.{◌&&◌}
use mathlib.Core.List.{List}
use native.Mathlib.Omega.{arith}
use native.Mathlib.Nat.{mul-zero}
use lib.Dec.{eqb}
use lib.ListN.{length, get_or}
use Rattle.common.proofs.BelowLaws.{bit_small}
use Rattle.tables.specs.Layout.{slot, counts_of, takes_char, arity_in, row_count}
use Rattle.chart.proofs.LayoutLaws.{row_in, table_rows_few}
use Rattle.chart.specs.Layout.{places, row_limit, row_of}
use Rattle.chart.specs.ByEnds.{place_at}
use Rattle.chart.proofs.RowsLaws.{rows_small}
use Rattle.column.specs.Scattered.{Scattered}
use Rattle.column.specs.Sums.{SplitsAdded}
use Rattle.common.specs.Below.{bit_of}
use Rattle.common.specs.Zeros.{AllZero}
use Rattle.fill.proofs.FillingLaws.{zero_sum, Knows, inner_sums, filling_next, summing_next, filling_skip, summing_skip}
use Rattle.fill.specs.Filling.{SmallCells, SmallSums, Filling, Summing}
use Rattle.fill.proofs.SmallLaws.{settled_small, small_stored, small_added}
use Rattle.fill.specs.Tables.{rows_of, CharArgs, SpanSettled, Ready, Small, Further}
use Rattle.prepare.specs.Prepared.{users_in, empty_in, back_in}
use Rattle.tables.specs.Theory.{theory_of}
use Rattle.span.specs.Span.{whole, used_sum, argument_of}
use Rattle.span.specs.Tables.{user_at, span_of, Exact, Founded}
use Rattle.theory.specs.Grammar.{Grammar}
use Rattle.theory.specs.Steps.{char_entry}

-- ---- before it is settled

-- with cells of zeros the arguments are the characters'
pub zero_exact : (counts users inner front back args cells : List ℕ) → AllZero row_limit cells → Exact (span_of counts users inner front back (λ k. get_or args k 0)) cells args
unfolding span_of argument_of used_sum
zero_exact counts users inner front back args cells z =
    record {
      exact = λ k l. omega (
        arith,
        zero_sum (λ q. get_or users (user_at q k) 0 * get_or cells (whole (arity_in counts) q) 0) (length counts)
            (λ q. ap (λ (n : ℕ). get_or users (user_at q k) 0 * n) (z.zeros (whole (arity_in counts) q)) ∙ mul-zero (get_or users (user_at q k) 0)),
      );
    }

-- zeros, and arguments that are 0 or 1
pub zero_founded : (counts users inner front back args cells : List ℕ) → ((r : ℕ) → get_or args r 0 ≤ 1) → AllZero row_limit cells → Founded counts users inner front back args cells
zero_founded counts users inner front back args cells little z =
    record {
      bare = λ k. get_or args k 0;
      little = little;
      small = λ k. omega (arith, z.zeros k);
      agree = zero_exact counts users inner front back args cells z;
    }

-- the arguments of a span before it is settled are 0 or 1
pub char_args_small : (t w : List ℕ) (i j : ℕ) (args : List ℕ) → CharArgs t w i j args → (r : ℕ) → get_or args r 0 ≤ 1
char_args_small t w i j args a =
    rows_small (λ (p d : ℕ). bit_of (eqb (i + 1) j && takes_char t (slot p d) (get_or w i 0))) (counts_of t) 1 (length (counts_of t)) args (λ p d. bit_small (eqb (i + 1) j && takes_char t (slot p d) (get_or w i 0))) a.filled

module _ (t b w chart sums live : List ℕ) (rows i j : ℕ) (rows_are : rows ≡ rows_of t) (ready : Ready t b w chart sums live) (ij : i < j) (jw : j ≤ length w) where
  abbrev g : Grammar
  g = theory_of t

  abbrev empty : List ℕ
  empty = empty_in b

  abbrev back : List ℕ
  back = back_in b

  abbrev users : ℕ → ℕ → ℕ
  users q r = get_or (users_in b) (user_at q r) 0

  few_rows : row_count (arity_in (counts_of t)) (length (counts_of t)) ≤ row_limit
  few_rows = table_rows_few t ready.fits.tables

  -- ---- after it is settled and stored

  module _ (inner args₀ x₀ x args chart' : List ℕ) (zeros : AllZero row_limit x₀) (done : SpanSettled t b inner (empty_in b) (back_in b) args₀ x₀ args x)
      (stored : Scattered (λ (r : ℕ). place_at (length w) r i j) (λ (r : ℕ). get_or x r 0) rows chart chart') where
    stored_all : Scattered (λ (r : ℕ). place_at (length w) r i j) (λ (r : ℕ). get_or x r 0) (rows_of t) chart chart'
    stored_all = subst (λ (n : ℕ). Scattered (λ (r : ℕ). place_at (length w) r i j) (λ (r : ℕ). get_or x r 0) n chart chart') rows_are stored

    pub cells_small : SmallCells (length w) (rows_of t) (j + 1) chart → SmallCells (length w) (rows_of t) (j + 1) chart'
    cells_small cells =
        let span = span_of (counts_of t) (users_in b) inner (empty_in b) (back_in b) (λ k. get_or args₀ k 0) in
        small_stored (length w) (rows_of t) j jw i x chart chart' (omega arith) (settled_small span x₀ args x zeros done.settled) stored_all cells

    -- ---- and its arguments are added

    module _ (sums' live' : List ℕ) (gathered : (r : ℕ) → r < rows → get_or inner r 0 ≡ get_or sums (r * places + i) 0) (bare : CharArgs t w i j args₀)
        (added : SplitsAdded (length w) rows i chart' args sums live sums' live') where
      added_all : SplitsAdded (length w) (rows_of t) i chart' args sums live sums' live'
      added_all = subst (λ (n : ℕ). SplitsAdded (length w) n i chart' args sums live sums' live') rows_are added

      pub span_small : Small t w chart sums j → Small t w chart' sums' j
      span_small small =
          record {
            cells = cells_small small.cells;
            little = small_added (length w) (rows_of t) i j chart' args sums live sums' live' (omega (arith, ready.fits.short)) (omega (arith, ready.fits.short)) added_all small.little;
          }

      module _ (before : List ℕ) (fill : Filling (theory_of t) w (empty_in b) before chart (i + 1) j) (summing : Summing (theory_of t) w (empty_in b) chart sums live (i + 1) j) where
        known : Knows g w empty back ready.prepared.empty few_rows ready.fits.short before chart sums live i j ij jw fill summing users (λ k. get_or args₀ k 0) (λ k. get_or inner k 0)
        unfolding char_entry
        known =
            record {
              users_are = ready.prepared.linked.users.takes;
              bare_are = λ p d lp ld. bare.filled.here p d lp ld;
              inner_are = λ p d lp ld. gathered (row_of (arity_in (counts_of t)) p d) (omega (arith, rows_are, row_in (arity_in (counts_of t)) p d (length (counts_of t)) lp (omega arith)))
                  ∙ inner_sums g w empty back ready.prepared.empty few_rows ready.fits.short before chart sums live i j ij jw fill summing users (λ k. get_or args₀ k 0) (λ k. get_or inner k 0) p d lp ld;
            }

        span_filled : Filling (theory_of t) w (empty_in b) before chart' i j × Summing (theory_of t) w (empty_in b) chart' sums' live' i j
        unfolding span_of
        span_filled = (
          filling_next g w empty back ready.prepared.empty few_rows ready.fits.short before chart sums live i j ij jw fill summing users (λ k. get_or args₀ k 0) (λ k. get_or inner k 0)
              known x₀ x args zeros done.settled.came done.settled.closed_all done.settled.agree chart' stored_all,
          summing_next g w empty back ready.prepared.empty few_rows ready.fits.short before chart sums live i j ij jw fill summing users (λ k. get_or args₀ k 0) (λ k. get_or inner k 0)
              known x₀ x args zeros done.settled.came done.settled.closed_all done.settled.agree chart' stored_all sums' live' added_all,
        )

      pub span_further : Further t b w chart sums live (i + 1) j chart' sums' live' i
      span_further = record { further = span_filled }

  -- ---- nothing spells it

  pub span_skipped : (i + 1 ≡ j → ⊥) → get_or live i 0 ≡ 0 → SmallSums (rows_of t) j sums → Further t b w chart sums live (i + 1) j chart sums live i
  span_skipped apart dead small =
      record {
        further = λ before fill summing. (
          filling_skip g w empty back ready.prepared.empty few_rows ready.fits.short before chart sums live i j ij jw apart fill summing dead small users ready.prepared.linked.users.takes,
          summing_skip g w empty back ready.prepared.empty few_rows ready.fits.short before chart sums live i j ij jw apart fill summing dead small users ready.prepared.linked.users.takes,
        );
      }
