-- Laws of a chart while it is filled: each span settled and stored leaves it filled so much further, and filled to the end it counts.
use Prim.Native.Nat.{ℕ, zero, suc, ◌+◌, ◌-◌, ◌*◌, ◌≤◌, ◌<◌}
use mathlib.Core.Path.{◌≡◌, refl, sym, ◌∙◌, ap, ap₂, subst, subst⁻¹, subst₂}
use mathlib.Core.Bool.{true≢false}
use mathlib.Core.List.{List}
use mathlib.Core.Logic.{by_cases}
use native.Mathlib.Omega.{arith}
use native.Mathlib.Decide.{ℕ_discrete, dec_lt}
use native.Mathlib.Nat.{add-zero, mul-zero, zero-add, zero-mul, le_refl}
use lib.ListN.{length, get_or, get_or-eq_default}
use borrow.Author.Tests.{ne_eqb}
use Rattle.chart.proofs.LayoutLaws.{row_in, row_shift}
use Rattle.chart.specs.Counted.{entry_of, CountedBy}
use Rattle.chart.specs.Layout.{text_limit, places, row_limit, row_of, cell_at, entry_at}
use Rattle.tables.specs.Layout.{row_count}
use Rattle.chart.proofs.ByEndsLaws.{place_below, place_same}
use Rattle.chart.specs.ByEnds.{place_at, Turned}
use Rattle.column.specs.Scattered.{Scattered}
use Rattle.column.specs.Sums.{ColumnCleared, SplitsAdded}
use Rattle.common.proofs.BelowLaws.{sum_bound, sum_same, sum_first}
use Rattle.common.proofs.ListLaws.{length_tabulate, get_d_tabulate}
use Rattle.common.specs.Below.{sum_below, bit_of}
use Rattle.common.specs.Lists.{tabulate}
use Rattle.common.specs.Zeros.{AllZero}
use Rattle.empty.specs.Empty.{EmptyRight}
use Rattle.fill.proofs.SpanFillLaws.{over_here, over_else, view_empty, view_cell, empty_step, Known, argument_whole, step_split, Fine, Inside, settled_fine}
use Rattle.fill.specs.Filling.{view_of, over, Done, SmallCells, SmallSums, Filling, Summing}
use Rattle.span.specs.Span.{Span, whole, used_sum, argument_of, step_of, ClosedAt, Raised, as_before}
use Rattle.span.specs.Tables.{Exact}
use Rattle.theory.proofs.ClosedLaws.{everything_due}
use Rattle.theory.proofs.CountLaws.{entry_counts}
use Rattle.theory.proofs.SplitLaws.{argument_same, split_same}
use Rattle.theory.specs.Counts.{Shown}
use Rattle.theory.specs.Grammar.{Grammar, Spells}
use Rattle.theory.specs.Steps.{Chart, cap, char_entry, argument_sum, split_sum, everything, Sound, Closed}
use Rattle.theory.specs.Tree.{Forest}

-- ---- sums

-- of a product only the cap of a factor matters
cap_product : (sum cell argument : ℕ) → cap (cap sum + cell * cap argument) ≡ cap (cell * argument + sum)
cap_product sum zero argument = omega arith
cap_product sum (suc cell) argument =
    by_cases (dec_lt argument 2)
    (λ l. let e : cap argument ≡ argument = omega arith in rw e (omega arith))
    (λ l. let e : cap argument ≡ 2 = omega arith in rw e (omega arith))

pub zero_sum : (f : ℕ → ℕ) (n : ℕ) → ((k : ℕ) → f k ≡ 0) → sum_below n f ≡ 0
zero_sum f n e = omega (arith, sum_bound 0 f (λ k. omega (arith, e k)) n)

abbrev zero_at : ℕ → ℕ
zero_at m = 0

tabulate_zero : (n k : ℕ) → get_or (tabulate n zero_at) k 0 ≡ 0
tabulate_zero n k =
    by_cases (dec_lt k n)
    (λ l. get_d_tabulate n zero_at k 0 l)
    (λ l. get_or-eq_default (tabulate n zero_at) 0 {n = k} (omega (arith, length_tabulate n zero_at)))

-- ---- spans done

-- a span that is done is the one at hand, or was done before
done_before : (n i j i' j' : ℕ) → Done n i j i' j' → (i' ≡ i → j' ≡ j → ⊥) → Done n (i + 1) j i' j'
done_before n i j i' j' d apart =
    record {
      rises = d.rises;
      within = d.within;
      column = d.column;
      start = λ l e. by_cases (dec_lt i i') (λ h. omega arith) (λ h. absurd (apart (omega (arith, d.start l e)) e));
    }

-- ---- a span stored

module _ (g : Grammar) (w empty bytes bytes' x : List ℕ) (i j : ℕ) (ij : i < j) (jw : j ≤ length w)
    (stored : Scattered (λ (r : ℕ). place_at (length w) r i j) (λ (r : ℕ). get_or x r 0) (row_count g.arity g.count) bytes bytes') where
  abbrev view : Chart
  view = view_of g.arity (length w) empty bytes

  abbrev view' : Chart
  view' = view_of g.arity (length w) empty bytes'

  abbrev o : Chart
  o = over g.arity view i j x

  -- other cells are as they were
  other_cell : (r i' j' : ℕ) → i' ≤ j' → j' ≤ length w → (i' ≡ i → j' ≡ j → ⊥) → entry_at bytes' (place_at (length w) r i' j') ≡ entry_at bytes (place_at (length w) r i' j')
  unfolding entry_at
  other_cell r i' j' l h apart =
      stored.others (place_at (length w) r i' j')
      (λ k o e. let (a, b, c) = place_same (length w) r k i' i j' j l h (omega arith) jw e in apart b c)

  -- the view is the one before with the span put in
  stored_view : (p d i' j' : ℕ) → p < g.count → d ≤ g.arity p → i' ≤ j' → j' ≤ length w → view' p d i' j' ≡ o p d i' j'
  unfolding entry_at
  stored_view p d i' j' lp ld rises within =
      elim (ℕ_discrete i' j') [
        | yes e ↦ subst (λ (m : ℕ). view' p d i' m ≡ o p d i' m) e
            (view_empty g.arity (length w) empty bytes' p d i' ∙ sym (view_empty g.arity (length w) empty bytes p d i') ∙ sym (over_else g.arity view i j x p d i' i' (λ a b. omega arith)))
        | no e ↦ let lt : i' < j' = by_cases (dec_lt i' j') (λ l. l) (λ l. absurd (e (omega arith))) in
            elim (ℕ_discrete i' i) [
              | yes a ↦ elim (ℕ_discrete j' j) [
                | yes b ↦ subst₂ (λ (u v : ℕ). view' p d u v ≡ o p d u v) (sym a) (sym b)
                    (view_cell g.arity (length w) empty bytes' p d i j ij ∙ stored.here (row_of g.arity p d) (row_in g.arity p d g.count lp ld) ∙ sym (over_here g.arity view i j x p d))
                | no b ↦ view_cell g.arity (length w) empty bytes' p d i' j' lt ∙ other_cell (row_of g.arity p d) i' j' rises within (λ u v. b v)
                    ∙ sym (view_cell g.arity (length w) empty bytes p d i' j' lt) ∙ sym (over_else g.arity view i j x p d i' j' (λ u v. b v))
              ]
              | no a ↦ view_cell g.arity (length w) empty bytes' p d i' j' lt ∙ other_cell (row_of g.arity p d) i' j' rises within (λ u v. a u)
                  ∙ sym (view_cell g.arity (length w) empty bytes p d i' j' lt) ∙ sym (over_else g.arity view i j x p d i' j' (λ u v. a u))
            ]
      ]

  -- so is what rests on it
  stored_split : (p d i' j' : ℕ) → p < g.count → d ≤ g.arity p → i' ≤ j' → j' ≤ length w → split_sum g w view' p d i' j' ≡ split_sum g w o p d i' j'
  stored_split p d i' j' lp ld rises within =
      split_same g w view' o p d i' j' rises
      (λ m a b. stored_view p d i' m lp ld a (omega arith))
      (λ q m l a b. stored_view q (g.arity q) m j' l (le_refl (g.arity q)) b within)

  stored_argument : (p d m : ℕ) → m ≤ j → argument_sum g w view' p d m j ≡ argument_sum g w o p d m j
  stored_argument p d m l = argument_same g w view' o p d m j (λ q h. stored_view q (g.arity q) m j h (le_refl (g.arity q)) l jw)

  -- a span done before rests on spans done before
  split_before : (p d i' j' : ℕ) → Done (length w) (i + 1) j i' j' → split_sum g w o p d i' j' ≡ split_sum g w view p d i' j'
  split_before p d i' j' dn =
      split_same g w o view p d i' j' dn.rises
      (λ m a b. over_else g.arity view i j x p d i' m (λ u v. omega (arith, dn.rises, dn.start (omega arith) (omega (arith, dn.column (omega arith))))))
      (λ q m l a b. over_else g.arity view i j x q (g.arity q) m j' (λ u v. omega (arith, dn.start (omega arith) v)))

-- ---- one span further

module _ (g : Grammar) (w empty back : List ℕ) (bottom : EmptyRight g empty back) (few : row_count g.arity g.count ≤ row_limit) (short : length w ≤ text_limit)
    (before bytes sums live : List ℕ) (i j : ℕ) (ij : i < j) (jw : j ≤ length w)
    (fill : Filling g w empty before bytes (i + 1) j) (summing : Summing g w empty bytes sums live (i + 1) j) (users : ℕ → ℕ → ℕ) (bare inner : ℕ → ℕ) where
  abbrev c : Chart
  c = view_of g.arity (length w) empty bytes

  abbrev s : Span
  s = record { count = g.count; arity = g.arity; users = users; bare = bare; inner = inner; front = λ r. get_or empty r 0; back = λ r. get_or back r 0 }

  pub diag : (p d m : ℕ) → c p d m m ≡ get_or empty (row_of g.arity p d) 0
  diag p d m = view_empty g.arity (length w) empty bytes p d m

  abbrev pub Knows : Type 0
  Knows = Known g w empty back bottom c diag i j ij jw users bare inner

  -- the splits inside the span are the sums for its start
  pub inner_sums : (p d : ℕ) → p < g.count → d < g.arity p
      → get_or sums (row_of g.arity p d * places + i) 0 ≡ cap (sum_below (j - i - 1) (λ k. c p d i (i + 1 + k) * argument_sum g w c p d (i + 1 + k) j))
  inner_sums p d lp ld =
      let e : j - (i + 1) ≡ j - i - 1 = omega arith in
      summing.splits p d i lp ld (omega arith) ∙ ap (λ (m : ℕ). cap (sum_below m (λ k. c p d i (i + 1 + k) * argument_sum g w c p d (i + 1 + k) j))) e

  within : Inside g w empty back bottom c diag i j ij jw users bare inner
  within =
      record {
        fronts = λ p d m lp ld a b. fill.shown p d i m lp ld (record { rises = a; within = omega arith; column = λ h. omega arith; start = λ h e. absurd (omega arith) });
        backs = λ p m lp a b. fill.shown p (g.arity p) m j lp (le_refl (g.arity p)) (record { rises = b; within = jw; column = λ h. le_refl j; start = λ h e. omega arith });
      }

  module _ (known : Knows) (x₀ x args : List ℕ) (zeros : AllZero row_limit x₀) (came : Raised s x₀ x)
      (closed : (p : ℕ) → p < g.count → ClosedAt s x p) (exact : Exact s x args)
      (bytes' : List ℕ)
      (stored : Scattered (λ (r : ℕ). place_at (length w) r i j) (λ (r : ℕ). get_or x r 0) (row_count g.arity g.count) bytes bytes') where
    abbrev c' : Chart
    c' = view_of g.arity (length w) empty bytes'

    put : Chart
    put = over g.arity c i j x

    view_o : (p d i' j' : ℕ) → p < g.count → d ≤ g.arity p → i' ≤ j' → j' ≤ length w → c' p d i' j' ≡ put p d i' j'
    unfolding put
    view_o p d i' j' lp ld a b = stored_view g w empty bytes bytes' x i j ij jw stored p d i' j' lp ld a b

    fine_cells : Fine g w empty back bottom c diag i j ij jw users bare inner x
    fine_cells = settled_fine g w empty back bottom c diag i j ij jw users bare inner known within x₀ x zeros few came

    -- a statement about each cell holds of the new one and of those before
    each : (P : ℕ → ℕ → ℕ → Type 0) (p d : ℕ) → p < g.count → d ≤ g.arity p → P i j (get_or x (row_of g.arity p d) 0)
        → ((i' j' : ℕ) → Done (length w) (i + 1) j i' j' → P i' j' (c p d i' j'))
        → (i' j' : ℕ) → Done (length w) i j i' j' → P i' j' (c' p d i' j')
    unfolding put
    each P p d lp ld new old i' j' dn =
        subst⁻¹ (λ (v : ℕ). P i' j' v) (view_o p d i' j' lp ld dn.rises dn.within)
        (elim (ℕ_discrete i' i) [
          | yes a ↦ elim (ℕ_discrete j' j) [
            | yes b ↦ subst₂ (λ (u v : ℕ). P u v (put p d u v)) (sym a) (sym b) (subst⁻¹ (λ (v : ℕ). P i j v) (over_here g.arity c i j x p d) new)
            | no b ↦ subst⁻¹ (λ (v : ℕ). P i' j' v) (over_else g.arity c i j x p d i' j' (λ u v. b v)) (old i' j' (done_before (length w) i j i' j' dn (λ u v. b v)))
          ]
          | no a ↦ subst⁻¹ (λ (v : ℕ). P i' j' v) (over_else g.arity c i j x p d i' j' (λ u v. a u)) (old i' j' (done_before (length w) i j i' j' dn (λ u v. a u)))
        ])

    -- the new span is closed, and those before still are
    still_closed : (p d i' j' : ℕ) → p < g.count → d < g.arity p → Done (length w) i j i' j' → cap (split_sum g w c' p d i' j') ≤ c' p (d + 1) i' j'
    unfolding put
    still_closed p d i' j' lp ld dn =
        let sp = stored_split g w empty bytes bytes' x i j ij jw stored p d i' j' lp (omega arith) dn.rises dn.within in
        subst⁻¹ (λ (v : ℕ). cap v ≤ c' p (d + 1) i' j') sp
        (each (λ (u v n : ℕ). cap (split_sum g w put p d u v) ≤ n) p (d + 1) lp (omega arith)
        (let st = step_split g w empty back bottom c diag i j ij jw users bare inner known x p d lp ld in
        let cl = (closed p lp).closed d ld in
        subst (λ (r : ℕ). cap (split_sum g w put p d i j) ≤ get_or x r 0) (row_shift g.arity p d) (omega (arith, st, cl)))
        (λ u v du. subst⁻¹ (λ (n : ℕ). cap n ≤ c p (d + 1) u v) (split_before g w empty bytes bytes' x i j ij jw stored p d u v du) (fill.steps p d u v lp ld du))
        i' j' dn)

    pub filling_next : Filling g w empty before bytes' i j
    filling_next =
        record {
          long = stored.long ∙ fill.long;
          beyond = λ k l. stored.others k (λ r o e. omega (arith, place_below (length w) r (row_count g.arity g.count) i j o (omega arith) jw)) ∙ fill.beyond k l;
          shown = λ p d i' j' lp ld dn. each (λ (u v n : ℕ). Shown (λ (f : Forest). Spells g w p f d u v) n) p d lp ld (fine_cells.fine p d lp ld) (λ u v du. fill.shown p d u v lp ld du) i' j' dn;
          steps = still_closed;
          diagonal = λ r j' lr l. other_cell g w empty bytes bytes' x i j ij jw stored r j' j' (le_refl j') (omega arith) (λ u v. omega arith) ∙ fill.diagonal r j' lr l;
        }

    -- the argument over the span, and over a part that ends where it does
    argument_here : (p d : ℕ) → p < g.count → d < g.arity p → get_or args (row_of g.arity p d) 0 ≡ argument_sum g w c' p d i j
    argument_here p d lp ld =
        let inside = row_in g.arity p d g.count lp (omega arith) in
        exact.exact (row_of g.arity p d) (omega arith)
        ∙ sym (argument_whole g w empty back bottom c diag i j ij jw users bare inner known x p d lp ld)
        ∙ sym (stored_argument g w empty bytes bytes' x i j ij jw stored p d i (omega arith))

    argument_later : (p d m : ℕ) → i < m → m ≤ j → argument_sum g w c' p d m j ≡ argument_sum g w c p d m j
    argument_later p d m l h =
        stored_argument g w empty bytes bytes' x i j ij jw stored p d m h
        ∙ argument_same g w (over g.arity c i j x) c p d m j (λ q o. over_else g.arity c i j x q (g.arity q) m j (λ u v. omega arith))

    -- a cell of an earlier start
    cell_earlier : (p d i' m : ℕ) → p < g.count → d ≤ g.arity p → i' < i → i' ≤ m → m ≤ length w → c' p d i' m ≡ c p d i' m
    cell_earlier p d i' m lp ld l h o = stored_view g w empty bytes bytes' x i j ij jw stored p d i' m lp ld h o ∙ over_else g.arity c i j x p d i' m (λ u v. omega arith)

    module _ (sums' live' : List ℕ) (added : SplitsAdded (length w) (row_count g.arity g.count) i bytes' args sums live sums' live') where
      next_sums : (p d i' : ℕ) → p < g.count → d < g.arity p → i' < i
          → get_or sums' (row_of g.arity p d * places + i') 0 ≡ cap (sum_below (j - i) (λ k. c' p d i' (i + k) * argument_sum g w c' p d (i + k) j))
      next_sums p d i' lp ld l =
          let row = row_of g.arity p d in
          let f : ℕ → ℕ = λ k. c' p d i' (i + k) * argument_sum g w c' p d (i + k) j in
          let old : ℕ → ℕ = λ k. c p d i' (i + 1 + k) * argument_sum g w c p d (i + 1 + k) j in
          let cell : entry_at bytes' (place_at (length w) row i' i) ≡ c' p d i' i = sym (view_cell g.arity (length w) empty bytes' p d i' i l) in
          let start : f 0 ≡ c' p d i' i * argument_sum g w c' p d i j = ap (λ (m : ℕ). c' p d i' m * argument_sum g w c' p d m j) (add-zero i) in
          let rest : sum_below (j - i - 1) (λ k. f (suc k)) ≡ sum_below (j - i - 1) old = sum_same (λ k. f (suc k)) old (j - i - 1)
          (λ k h. let e : i + suc k ≡ i + 1 + k = omega arith in
          ap (λ (m : ℕ). c' p d i' m * argument_sum g w c' p d m j) e
          ∙ ap₂ ◌*◌ (cell_earlier p d i' (i + 1 + k) lp (omega arith) l (omega arith) (omega arith)) (argument_later p d (i + 1 + k) (omega arith) (omega arith))) in
          let e : j - i ≡ suc (j - i - 1) = omega arith in
          let e' : j - (i + 1) ≡ j - i - 1 = omega arith in
          let before_it : get_or sums (row * places + i') 0 ≡ cap (sum_below (j - i - 1) old) = summing.splits p d i' lp ld (omega arith) ∙ ap (λ (m : ℕ). cap (sum_below m old)) e' in
          added.added row i' (row_in g.arity p d g.count lp (omega arith)) l
          ∙ ap₂ (λ (u v : ℕ). cap (u + v)) before_it (ap₂ (λ (u v : ℕ). u * cap v) cell (argument_here p d lp ld))
          ∙ cap_product (sum_below (j - i - 1) old) (c' p d i' i) (argument_sum g w c' p d i j)
          ∙ sym (ap cap (ap (λ (m : ℕ). sum_below m f) e ∙ sum_first f (j - i - 1) ∙ ap₂ ◌+◌ start rest))

      pub summing_next : Summing g w empty bytes' sums' live' i j
      summing_next =
          record {
            sums_long = added.sums_long ∙ summing.sums_long;
            live_long = added.live_long ∙ summing.live_long;
            cleared = λ r i' lr l. other_cell g w empty bytes bytes' x i j ij jw stored r i' j (omega arith) jw (λ u v. omega arith) ∙ summing.cleared r i' lr (omega arith);
            splits = next_sums;
            quiet = λ r i' lr l e. added.quiet r i' lr l e (summing.quiet r i' lr (omega arith) (added.kept i' e));
          }

-- ---- a span that nothing spells

module _ (g : Grammar) (w empty back : List ℕ) (bottom : EmptyRight g empty back) (few : row_count g.arity g.count ≤ row_limit) (short : length w ≤ text_limit)
    (before bytes sums live : List ℕ) (i j : ℕ) (ij : i < j) (jw : j ≤ length w) (apart : i + 1 ≡ j → ⊥)
    (fill : Filling g w empty before bytes (i + 1) j) (summing : Summing g w empty bytes sums live (i + 1) j) (dead : get_or live i 0 ≡ 0)
    (small : SmallSums (row_count g.arity g.count) j sums) (users : ℕ → ℕ → ℕ)
    (takes : (p d q : ℕ) → p < g.count → d < g.arity p → q < g.count → users q (row_of g.arity p d) ≡ bit_of (g.subs p d q)) where
  abbrev none_bare : ℕ → ℕ
  none_bare r = 0

  abbrev no_sums : ℕ → ℕ
  no_sums r = get_or sums (r * places + i) 0

  zeros : List ℕ
  zeros = tabulate row_limit zero_at

  zeros_are : AllZero row_limit zeros
  unfolding zeros
  zeros_are = record { long = length_tabulate row_limit zero_at; zeros = tabulate_zero row_limit }

  abbrev dead_span : Span
  dead_span = record { count = g.count; arity = g.arity; users = users; bare = none_bare; inner = no_sums; front = λ r. get_or empty r 0; back = λ r. get_or back r 0 }

  no_argument_lem : (r : ℕ) → argument_of dead_span zeros r ≡ 0
  unfolding argument_of used_sum
  no_argument_lem r =
      zero-add (sum_below g.count (λ q. users q r * get_or zeros (whole g.arity q) 0))
      ∙ zero_sum (λ q. users q r * get_or zeros (whole g.arity q) 0) g.count (λ q. ap (λ (n : ℕ). users q r * n) (zeros_are.zeros (whole g.arity q)) ∙ mul-zero (users q r))

  dead_known : Knows g w empty back bottom few short before bytes sums live i j ij jw fill summing users none_bare no_sums
  unfolding char_entry
  dead_known =
      record {
        users_are = takes;
        bare_are = λ p d lp ld. rw (ne_eqb (i + 1) j apart) refl;
        inner_are = λ p d lp ld. inner_sums g w empty back bottom few short before bytes sums live i j ij jw fill summing users none_bare no_sums p d lp ld;
      }

  dead_closed : (p : ℕ) → p < g.count → ClosedAt dead_span zeros p
  unfolding step_of
  dead_closed p lp =
      record {
        closed = λ d ld. let row = row_of g.arity p d in
            let none_inside = summing.quiet row i (row_in g.arity p d g.count lp (omega arith)) (omega arith) dead in
            let front : get_or empty row 0 * argument_of dead_span zeros row ≡ 0 = ap (λ (n : ℕ). get_or empty row 0 * n) (no_argument_lem row) ∙ mul-zero (get_or empty row 0) in
            let prefix : get_or zeros row 0 * get_or back row 0 ≡ 0 = ap (λ (n : ℕ). n * get_or back row 0) (zeros_are.zeros row) ∙ zero-mul (get_or back row 0) in
            omega (arith, none_inside, front, prefix);
      }

  dead_exact : Exact dead_span zeros zeros
  dead_exact = record { exact = λ r l. zeros_are.zeros r ∙ sym (no_argument_lem r) }

  dead_stored : Scattered (λ (r : ℕ). place_at (length w) r i j) (λ (r : ℕ). get_or zeros r 0) (row_count g.arity g.count) bytes bytes
  unfolding entry_at
  dead_stored = record { long = refl; here = λ r l. summing.cleared r i l (omega arith) ∙ sym (zeros_are.zeros r); others = λ k h. refl }

  dead_added : SplitsAdded (length w) (row_count g.arity g.count) i bytes zeros sums live sums live
  dead_added =
      record {
        sums_long = refl;
        live_long = refl;
        added = λ r i' lr l. let product : entry_at bytes (place_at (length w) r i' i) * cap (get_or zeros r 0) ≡ 0 =
            ap (λ (n : ℕ). entry_at bytes (place_at (length w) r i' i) * cap n) (zeros_are.zeros r) ∙ mul-zero (entry_at bytes (place_at (length w) r i' i)) in
            omega (arith, product, small.small_sums r i' lr (omega arith));
        others = λ k h. refl;
        kept = λ i' e. e;
        quiet = λ r i' lr l e h. h;
      }

  pub filling_skip : Filling g w empty before bytes i j
  filling_skip =
      filling_next g w empty back bottom few short before bytes sums live i j ij jw fill summing users none_bare no_sums dead_known zeros zeros zeros zeros_are as_before dead_closed dead_exact bytes dead_stored

  pub summing_skip : Summing g w empty bytes sums live i j
  summing_skip =
      summing_next g w empty back bottom few short before bytes sums live i j ij jw fill summing users none_bare no_sums dead_known zeros zeros zeros zeros_are as_before dead_closed dead_exact bytes dead_stored sums live dead_added

-- ---- before the first column

module _ (g : Grammar) (w empty back : List ℕ) (bottom : EmptyRight g empty back) (before : List ℕ) where
  abbrev first_view : Chart
  first_view = view_of g.arity (length w) empty before

  -- at first only the empty spans are done
  nothing_yet : (i' j' : ℕ) → Done (length w) 0 0 i' j' → i' ≡ j'
  nothing_yet i' j' dn = by_cases (dec_lt i' j') (λ l. absurd (omega (arith, dn.column l))) (λ l. omega (arith, dn.rises))

  on_diagonal_lem : (P : ℕ → ℕ → ℕ → Type 0) (p d : ℕ) → ((m : ℕ) → m ≤ length w → P m m (get_or empty (row_of g.arity p d) 0))
      → (i' j' : ℕ) → Done (length w) 0 0 i' j' → P i' j' (first_view p d i' j')
  on_diagonal_lem P p d h i' j' dn =
      subst (λ (n : ℕ). P i' n (first_view p d i' n)) (nothing_yet i' j' dn)
      (subst⁻¹ (λ (v : ℕ). P i' i' v) (view_empty g.arity (length w) empty before p d i') (h i' (omega (arith, dn.rises, dn.within))))

  pub filling_start : Filling g w empty before before 0 0
  filling_start =
      record {
        long = refl;
        beyond = λ k h. refl;
        shown = λ p d i' j' lp ld dn. on_diagonal_lem (λ (u v n : ℕ). Shown (λ (f : Forest). Spells g w p f d u v) n) p d (λ m h. bottom.shown w p d m lp ld h) i' j' dn;
        steps = λ p d i' j' lp ld dn. subst (λ (n : ℕ). cap (split_sum g w first_view p d i' n) ≤ first_view p (d + 1) i' n) (nothing_yet i' j' dn)
            (empty_step g w empty back bottom first_view (λ p d m. view_empty g.arity (length w) empty before p d m) p d i' lp ld);
        diagonal = λ r j' lr h. absurd (omega arith);
      }

-- ---- the end of a column: its empty span is stored

module _ (g : Grammar) (w empty before bytes bytes' : List ℕ) (j : ℕ) (jw : j ≤ length w) (fill : Filling g w empty before bytes 0 j)
    (stored : Scattered (λ (r : ℕ). place_at (length w) r j j) (λ (r : ℕ). get_or empty r 0) (row_count g.arity g.count) bytes bytes') where
  abbrev old_view : Chart
  old_view = view_of g.arity (length w) empty bytes

  abbrev new_view : Chart
  new_view = view_of g.arity (length w) empty bytes'

  apart_cell : (r i' j' : ℕ) → i' ≤ j' → j' ≤ length w → (i' ≡ j → j' ≡ j → ⊥) → entry_at bytes' (place_at (length w) r i' j') ≡ entry_at bytes (place_at (length w) r i' j')
  unfolding entry_at
  apart_cell r i' j' l h apart =
      stored.others (place_at (length w) r i' j')
      (λ k o e. let (a, b, c) = place_same (length w) r k i' j j' j l h (le_refl j) jw e in apart b c)

  same_view : (p d i' j' : ℕ) → i' ≤ j' → j' ≤ length w → new_view p d i' j' ≡ old_view p d i' j'
  same_view p d i' j' rises within =
      by_cases (dec_lt i' j')
      (λ l. view_cell g.arity (length w) empty bytes' p d i' j' l ∙ apart_cell (row_of g.arity p d) i' j' rises within (λ u v. omega arith) ∙ sym (view_cell g.arity (length w) empty bytes p d i' j' l))
      (λ l. let e : i' ≡ j' = omega arith in
      subst (λ (n : ℕ). new_view p d i' n ≡ old_view p d i' n) e (view_empty g.arity (length w) empty bytes' p d i' ∙ sym (view_empty g.arity (length w) empty bytes p d i')))

  same_split : (p d i' j' : ℕ) → i' ≤ j' → j' ≤ length w → split_sum g w new_view p d i' j' ≡ split_sum g w old_view p d i' j'
  same_split p d i' j' rises within =
      split_same g w new_view old_view p d i' j' rises
      (λ m a b. same_view p d i' m a (omega arith))
      (λ q m l a b. same_view q (g.arity q) m j' b within)

  -- done before the next column: done at the end of this one
  done_column : (i' j' : ℕ) → Done (length w) (j + 1) (j + 1) i' j' → Done (length w) 0 j i' j'
  done_column i' j' dn =
      record {
        rises = dn.rises;
        within = dn.within;
        column = λ l. by_cases (dec_lt j j') (λ h. absurd (omega (arith, dn.column l, dn.start l (omega (arith, dn.column l))))) (λ h. omega arith);
        start = λ l e. omega arith;
      }

  pub filling_column : Filling g w empty before bytes' (j + 1) (j + 1)
  unfolding entry_at
  filling_column =
      record {
        long = stored.long ∙ fill.long;
        beyond = λ k l. stored.others k (λ r o e. omega (arith, place_below (length w) r (row_count g.arity g.count) j j o (le_refl j) jw)) ∙ fill.beyond k l;
        shown = λ p d i' j' lp ld dn. subst⁻¹ (λ (v : ℕ). Shown (λ (f : Forest). Spells g w p f d i' j') v) (same_view p d i' j' dn.rises dn.within) (fill.shown p d i' j' lp ld (done_column i' j' dn));
        steps = λ p d i' j' lp ld dn. subst₂ (λ (u v : ℕ). cap u ≤ v) (sym (same_split p d i' j' dn.rises dn.within)) (sym (same_view p (d + 1) i' j' dn.rises dn.within))
            (fill.steps p d i' j' lp ld (done_column i' j' dn));
        diagonal = λ r j' lr l. elim (ℕ_discrete j' j) [
          | yes e ↦ subst⁻¹ (λ (n : ℕ). entry_at bytes' (place_at (length w) r n n) ≡ get_or empty r 0) e (stored.here r lr)
          | no e ↦ apart_cell r j' j' (le_refl j') (omega arith) (λ u v. e u) ∙ fill.diagonal r j' lr (by_cases (dec_lt j' j) (λ h. h) (λ h. absurd (e (omega arith))))
        ];
      }

-- ---- the beginning of a column: zeros in it, and no sum yet

module _ (g : Grammar) (w empty before bytes bytes' sums live : List ℕ) (j : ℕ) (jw : j ≤ length w) (fill : Filling g w empty before bytes j j)
    (clear : ColumnCleared (length w) (row_count g.arity g.count) j bytes bytes') where
  abbrev was : Chart
  was = view_of g.arity (length w) empty bytes

  abbrev now : Chart
  now = view_of g.arity (length w) empty bytes'

  -- a span done is none of the column
  done_earlier : (i' j' : ℕ) → Done (length w) j j i' j' → i' < j' → j' < j
  done_earlier i' j' dn l = by_cases (dec_lt j' j) (λ h. h) (λ h. absurd (omega (arith, dn.column l, dn.start l (omega (arith, dn.column l)))))

  kept_place : (r i' j' : ℕ) → i' ≤ j' → j' ≤ length w → (j' ≡ j → i' ≡ j') → entry_at bytes' (place_at (length w) r i' j') ≡ entry_at bytes (place_at (length w) r i' j')
  unfolding entry_at
  kept_place r i' j' l h apart =
      clear.others (place_at (length w) r i' j')
      (λ r' k lr lk e. let (a, b, c) = place_same (length w) r r' i' k j' j l h (omega arith) jw e in omega (arith, apart c))

  kept_view : (p d i' j' : ℕ) → i' ≤ j' → j' ≤ length w → (j' ≡ j → i' ≡ j') → now p d i' j' ≡ was p d i' j'
  kept_view p d i' j' l h apart =
      by_cases (dec_lt i' j')
      (λ o. view_cell g.arity (length w) empty bytes' p d i' j' o ∙ kept_place (row_of g.arity p d) i' j' l h apart ∙ sym (view_cell g.arity (length w) empty bytes p d i' j' o))
      (λ o. let e : i' ≡ j' = omega arith in
      subst (λ (n : ℕ). now p d i' n ≡ was p d i' n) e (view_empty g.arity (length w) empty bytes' p d i' ∙ sym (view_empty g.arity (length w) empty bytes p d i')))

  done_apart : (i' j' : ℕ) → Done (length w) j j i' j' → j' ≡ j → i' ≡ j'
  done_apart i' j' dn e = by_cases (dec_lt i' j') (λ l. absurd (omega (arith, done_earlier i' j' dn l))) (λ l. omega (arith, dn.rises))

  kept_split : (p d i' j' : ℕ) → Done (length w) j j i' j' → split_sum g w now p d i' j' ≡ split_sum g w was p d i' j'
  kept_split p d i' j' dn =
      split_same g w now was p d i' j' dn.rises
      (λ m a b. kept_view p d i' m a (omega (arith, dn.within)) (λ e. by_cases (dec_lt i' j') (λ o. absurd (omega (arith, done_earlier i' j' dn o))) (λ o. omega arith)))
      (λ q m l a b. kept_view q (g.arity q) m j' b dn.within (λ e. let same = done_apart i' j' dn e in omega arith))

  pub filling_begin : Filling g w empty before bytes' j j
  filling_begin =
      record {
        long = clear.long ∙ fill.long;
        beyond = λ k l. clear.others k (λ r i' lr li e. omega (arith, place_below (length w) r (row_count g.arity g.count) i' j lr (omega arith) jw)) ∙ fill.beyond k l;
        shown = λ p d i' j' lp ld dn. subst⁻¹ (λ (v : ℕ). Shown (λ (f : Forest). Spells g w p f d i' j') v) (kept_view p d i' j' dn.rises dn.within (done_apart i' j' dn)) (fill.shown p d i' j' lp ld dn);
        steps = λ p d i' j' lp ld dn. subst₂ (λ (u v : ℕ). cap u ≤ v) (sym (kept_split p d i' j' dn)) (sym (kept_view p (d + 1) i' j' dn.rises dn.within (done_apart i' j' dn)))
            (fill.steps p d i' j' lp ld dn);
        diagonal = λ r j' lr l. kept_place r j' j' (le_refl j') (omega arith) (λ e. refl) ∙ fill.diagonal r j' lr l;
      }

  pub summing_begin : length sums ≡ row_limit * places → length live ≡ places → ((r i' : ℕ) → r < row_count g.arity g.count → i' < j → get_or sums (r * places + i') 0 ≡ 0)
      → Summing g w empty bytes' sums live j j
  unfolding sum_below
  summing_begin long long_live zero_sums =
      record {
        sums_long = long;
        live_long = long_live;
        cleared = λ r i' lr l. clear.zeros r i' lr l;
        splits = λ p d i' lp ld l. let e : j - j ≡ 0 = omega arith in
            zero_sums (row_of g.arity p d) i' (row_in g.arity p d g.count lp (omega arith)) l
            ∙ ap (λ (m : ℕ). cap (sum_below m (λ k. now p d i' (j + k) * argument_sum g w now p d (j + k) j))) (sym e);
        quiet = λ r i' lr l e. zero_sums r i' lr l;
      }

-- ---- after the last column: the rows are turned

module _ (g : Grammar) (w empty back : List ℕ) (bottom : EmptyRight g empty back) (before bytes turned : List ℕ)
    (fill : Filling g w empty before bytes (length w + 1) (length w + 1))
    (small : SmallCells (length w) (row_count g.arity g.count) (length w + 1) bytes)
    (turn : Turned (length w) (row_count g.arity g.count) bytes turned) where
  abbrev last_view : Chart
  last_view = view_of g.arity (length w) empty bytes

  abbrev entry : Chart
  entry p d i j = entry_at turned (cell_at (length w) (row_of g.arity p d) i j)

  all_done : (i j : ℕ) → i ≤ j → j ≤ length w → Done (length w) (length w + 1) (length w + 1) i j
  all_done i j l h = record { rises = l; within = h; column = λ o. omega arith; start = λ o e. absurd (omega arith) }

  turned_entry : (p d i j : ℕ) → p < g.count → d ≤ g.arity p → i ≤ j → j ≤ length w → entry_at bytes (place_at (length w) (row_of g.arity p d) i j) ≡ entry p d i j
  turned_entry p d i j lp ld l h = sym (turn.cells (row_of g.arity p d) i j (row_in g.arity p d g.count lp ld) l h)

  entry_view : (p d i j : ℕ) → p < g.count → d ≤ g.arity p → i ≤ j → j ≤ length w → last_view p d i j ≡ entry p d i j
  entry_view p d i j lp ld l h =
      by_cases (dec_lt i j)
      (λ o. view_cell g.arity (length w) empty bytes p d i j o ∙ turned_entry p d i j lp ld l h)
      (λ o. let e : i ≡ j = omega arith in
      subst (λ (n : ℕ). last_view p d i n ≡ entry p d i n) e
      (view_empty g.arity (length w) empty bytes p d i ∙ sym (fill.diagonal (row_of g.arity p d) i (row_in g.arity p d g.count lp ld) (omega arith))
      ∙ turned_entry p d i i lp ld (le_refl i) (omega arith)))

  small_entry : (p d i j : ℕ) → p < g.count → d ≤ g.arity p → i ≤ j → j ≤ length w → last_view p d i j ≤ 2
  small_entry p d i j lp ld l h =
      by_cases (dec_lt i j)
      (λ o. omega (arith, view_cell g.arity (length w) empty bytes p d i j o, small.small_cells (row_of g.arity p d) i j (row_in g.arity p d g.count lp ld) o (omega arith)))
      (λ o. let e : i ≡ j = omega arith in
      subst (λ (n : ℕ). last_view p d i n ≤ 2) e (omega (arith, view_empty g.arity (length w) empty bytes p d i, bottom.small (row_of g.arity p d))))

  sound : Sound g w entry
  sound =
      record {
        shown = λ p d i j lp ld l h. subst (λ (v : ℕ). Shown (λ (f : Forest). Spells g w p f d i j) v) (entry_view p d i j lp ld l h) (fill.shown p d i j lp ld (all_done i j l h));
      }

  closed : Closed g w everything entry
  closed =
      record {
        empty = λ p i lp l wp. omega (arith, entry_view p 0 i i lp (omega arith) (le_refl i) l, view_empty g.arity (length w) empty bytes p 0 i, bottom.begins p lp);
        step = λ p d i j lp ld l h wp. subst₂ (λ (u v : ℕ). cap u ≤ v)
            (split_same g w last_view entry p d i j l
            (λ m a b. entry_view p d i m lp (omega arith) a (omega arith))
            (λ q m o a b. entry_view q (g.arity q) m j o (le_refl (g.arity q)) b h))
            (entry_view p (d + 1) i j lp (omega arith) l h) (fill.steps p d i j lp ld (all_done i j l h));
      }

  -- the chart counts
  pub filling_end : CountedBy g w everything turned
  unfolding entry_of
  filling_end =
      record {
        counts = λ p d i j lp ld l h wp. entry_counts g w everything (everything_due g w) entry sound closed p d i j lp ld l h wp
            (subst (λ (v : ℕ). v ≤ 2) (entry_view p d i j lp ld l h) (small_entry p d i j lp ld l h));
        unwanted = λ p d i j lp ld l h no. absurd (true≢false no);
      }
