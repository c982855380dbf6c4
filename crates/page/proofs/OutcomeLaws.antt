-- The promises of the page and of the row under a number, case by case of what checking the listing answers.
use Prim.Native.Nat.{ℕ, ◌*◌, ◌/◌, ◌≤◌, ◌<◌}
use mathlib.Core.List.{List}
use mathlib.Core.Path.{◌≡◌, refl, sym, ◌∙◌, ap, subst}
use native.Mathlib.Omega.{arith}
use lib.ListN.{length, get_or, get_or-eq_default}
use Rattle.charset.specs.Set.{characters}
use Rattle.chart.specs.Layout.{text_limit}
use Rattle.common.proofs.AllLaws.{all_of_at}
use Rattle.listing.specs.Answer.{listing_answer, ListingAnswer}
use Rattle.numbers.proofs.NumbersLaws.{numbers_length}
use Rattle.numbers.specs.Numbers.{listing_limit, numbers_of}
use Rattle.page.proofs.RightLaws.{RightListing, listed_whole, right_short, right_few, right_tree, rows_count, yield_count, row_fits}
use Rattle.lines.proofs.TextLaws.{page_length_lem}
use Rattle.page.specs.Answer.{Listed, page_length, page_if, page_answer, PageAfter, PageOutcome, RowIf, RowUnder}
use Rattle.lines.specs.Text.{line_length, page_text, RowFits}
use Rattle.rows.proofs.RowsLaws.{row_within}
use Rattle.rows.proofs.TableLaws.{row_said, rows_said}
use Rattle.rows.specs.Rows.{no_row, rows}
use Rattle.rows.specs.Table.{unpacked, table_rows}
use Rattle.rows.specs.Walk.{ListedAt, Placed}
use Rattle.rows.specs.declared.Next.{Next}
use Rattle.rows.specs.declared.Row.{Row}
use Rattle.theory.specs.Tree.{Tree}
use Rattle.writing.proofs.AnswerLaws.{written_exactly, refused_exactly}
use Rattle.writing.proofs.PutLaws.{put_same, put_start}
use Rattle.writing.specs.Put.{Put}
use Rattle.listing.specs.declared.Judgement.TheVariants.{Right, Wrong}
use Rattle.std.specs.Prelude.{Ok, Err}
use Rattle.refusal.specs.Verdict.{refused, refusal}
use Rattle.refusal.specs.declared.Fault.TheVariants.{WrongListing, LongPage}
use Rattle.refusal.specs.declared.Refusal.{Refusal}

-- ---- a listing that is not right

module _ (b w l page : List ℕ) where
  pub page_not_checked : (r : Refusal) → listing_answer b w l ≡ Err r → PageOutcome b w l page (Err r) page
  unfolding page_answer page_if PageAfter
  page_not_checked r e = record { answer = rw e refl; after = refl }

  pub page_wrong : (index : ℕ) → listing_answer b w l ≡ Ok (Wrong index) → PageOutcome b w l page (refused WrongListing index) page
  unfolding page_answer page_if PageAfter
  page_wrong index e = record { answer = rw e refl; after = refl }

module _ (b w l : List ℕ) (index : ℕ) where
  pub row_not_checked : (r : Refusal) → listing_answer b w l ≡ Err r → RowUnder b w l index no_row
  unfolding RowIf
  row_not_checked r e = record { is_row = rw e refl; ordered = omega arith; within = omega arith }

  pub row_wrong : (k : ℕ) → listing_answer b w l ≡ Ok (Wrong k) → RowUnder b w l index no_row
  unfolding RowIf
  row_wrong k e = record { is_row = rw e refl; ordered = omega arith; within = omega arith }

-- ---- a listing that is right

module _ {b w l : List ℕ} (given : RightListing b w l) where
  -- what is needed, as it is computed
  needed_is : line_length * (length l / 2) ≡ page_length l
  unfolding page_length
  needed_is = ap (λ (n : ℕ). line_length * n) (sym (numbers_length l))

  pub page_too_long : (page : List ℕ) → length page < line_length * (length l / 2) → PageOutcome b w l page (refused LongPage (line_length * (length l / 2))) page
  unfolding page_answer page_if PageAfter
  page_too_long page h =
      let long = refused_exactly LongPage (page_length l) (length page) (refusal LongPage (line_length * (length l / 2))) in
      record { answer = rw given.right (sym (long.1 (ap (refusal LongPage) needed_is, omega (arith, needed_is, h)))); after = refl }

  -- the listing has no such number
  pub row_beyond : (index : ℕ) → length l / 2 ≤ index → RowUnder b w l index no_row
  unfolding RowIf
  row_beyond index h =
      let (t, lent) = right_tree given in
      let beyond = get_or-eq_default (rows 0 0 t) no_row {n = index} (omega (arith, rows_count given lent, numbers_length l)) in
      record { is_row = rw given.right (t, lent, sym beyond); ordered = omega arith; within = omega arith }

  -- ---- with its rows in a table

  module _ (table₀ table : List ℕ) (long : length table₀ ≡ listing_limit) (r : Next)
      (placed : (t : Tree) → ListedAt b (numbers_of l) 0 t → Placed t 0 0 0 table₀ table r) where
    row_of : (t : Tree) → Listed b w l t → (k : ℕ) → k < length (numbers_of l) → unpacked (get_or (numbers_of l) k 0) (get_or table k 0) ≡ get_or (rows 0 0 t) k no_row
    row_of t lent k h =
        ap (λ (v : List ℕ). unpacked (get_or v k 0) (get_or table k 0)) (sym lent.listed)
        ∙ row_said t table₀ table (placed t (listed_whole given lent)).wrote
        (omega (arith, right_few given, ap (length {A = ℕ}) lent.listed)) (omega (arith, right_short given, yield_count given lent))
        k (omega (arith, ap (length {A = ℕ}) lent.listed))

    -- every line fits its columns
    pub table_fits : (k : ℕ) → k < length (numbers_of l) → RowFits w (unpacked (get_or (numbers_of l) k 0) (get_or table k 0))
    table_fits k h =
        let (t, lent) = right_tree given in
        subst (RowFits w) (sym (row_of t lent k h)) (row_fits given lent k (omega (arith, rows_count given lent)))

    pub row_there : (index : ℕ) → index < length (numbers_of l) → RowUnder b w l index (unpacked (get_or (numbers_of l) index 0) (get_or table index 0))
    unfolding RowIf
    row_there index h =
        let (t, lent) = right_tree given in
        let within = row_within 0 0 t index (omega (arith, rows_count given lent)) in
        rw (row_of t lent index h)
        (record { is_row = rw given.right (t, lent, refl); ordered = within.3; within = omega (arith, within.4, yield_count given lent) })

    pub page_written : (page₀ page : List ℕ) (n : ℕ) → line_length * (length l / 2) ≤ length page₀ → Put (page_text w (table_rows (numbers_of l) table)) page₀ 0 page n
        → PageOutcome b w l page₀ (Ok (line_length * (length l / 2))) page
    unfolding page_answer page_if PageAfter
    page_written page₀ page n h put =
        let (t, lent) = right_tree given in
        let fits = written_exactly LongPage (page_length l) (length page₀) (line_length * (length l / 2)) in
        let all : table_rows (numbers_of l) table ≡ rows 0 0 t =
        ap (λ (v : List ℕ). table_rows v table) (sym lent.listed)
        ∙ rows_said t table₀ table (placed t (listed_whole given lent)).wrote
        (omega (arith, right_few given, ap (length {A = ℕ}) lent.listed)) (omega (arith, right_short given, yield_count given lent)) in
        let size = page_length_lem w (rows 0 0 t) (all_of_at (RowFits w) (rows 0 0 t) no_row (row_fits given lent)) in
        let whole = put_same _ _ _ _ _ _ (ap (page_text w) all) put in
        record {
          answer = rw given.right (sym (fits.1 (needed_is, h)));
          after = (t, lent, put_start (page_text w (rows 0 0 t)) page₀ page n whole (omega (arith, numbers_length l, rows_count given lent)));
        }

-- ---- how far a row goes

short_if : (b w l : List ℕ) → ((k : ℕ) → get_or b k 0 < characters) → (index : ℕ) (r : Row) → r.end ≤ length w → (a : ListingAnswer) → listing_answer b w l ≡ a → RowIf a b w l index r
    → r.end ≤ text_limit
unfolding RowIf
short_if b w l bytes index r within (Ok Right) e h = omega (arith, right_short (record { bytes = bytes; right = e }))
short_if b w l bytes index r within (Ok (Wrong k)) e h = omega (arith, ap (λ (q : Row). q.end) h)
short_if b w l bytes index r within (Err x) e h = omega (arith, ap (λ (q : Row). q.end) h)

-- a row under a number ends within the limit of texts
pub under_short : (b w l : List ℕ) → ((k : ℕ) → get_or b k 0 < characters) → (index : ℕ) (r : Row) → RowUnder b w l index r → r.end ≤ text_limit
under_short b w l bytes index r under = short_if b w l bytes index r under.within (listing_answer b w l) refl under.is_row
