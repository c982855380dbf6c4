-- What a page that was written says, line by line; and what the part handed back spells.
use Prim.Native.Nat.{ℕ, ◌+◌, ◌*◌, ◌≤◌, ◌<◌}
use mathlib.Core.List.{List, ◌++◌}
use mathlib.Core.Path.{◌≡◌, refl, sym, ◌∙◌, ap, ap₂, subst}
use native.Mathlib.Omega.{arith}
use lib.ListN.{length, get_or, drop, get_or-eq_default}
use lib.Seq.{slice, drop_at, take-append-le}
use Rattle.common.proofs.AllLaws.{all_of_at}
use Rattle.common.specs.Lists.{All, overwritten}
use Rattle.listing.specs.Answer.{listing_answer, ListingAnswer}
use Rattle.numbers.specs.Numbers.{numbers_of}
use Rattle.lines.proofs.ReadLaws.{row_read, page_line}
use Rattle.page.proofs.RightLaws.{RightListing, rows_count, row_fits}
use Rattle.lines.proofs.TextLaws.{page_length_lem}
use Rattle.page.proofs.UniqueLaws.{one_listed}
use Rattle.page.specs.Answer.{Listed, page_length, RowIf, RowUnder, TextUnder}
use Rattle.lines.specs.Read.{ReadBack}
use Rattle.lines.specs.Text.{line_length, row_text, page_text, RowFits}
use Rattle.rows.proofs.RowsLaws.{rows_length}
use Rattle.rows.proofs.UnderLaws.{row_stands}
use Rattle.rows.specs.Rows.{no_row, rows}
use Rattle.rows.specs.declared.Row.{Row}
use Rattle.theory.specs.Tree.{Tree, yield, listing, Subtree}
use Rattle.listing.specs.declared.Judgement.TheVariants.{Right, Wrong}
use Rattle.std.specs.Prelude.{Ok, Err}

module _ {b w l : List ℕ} (given : RightListing b w l) {t : Tree} (lent : Listed b w l t) where
  all_fit : All (RowFits w) (rows 0 0 t)
  all_fit = all_of_at (RowFits w) (rows 0 0 t) no_row (row_fits given lent)

  -- 73 bytes a number
  pub page_long : length (page_text w (rows 0 0 t)) ≡ page_length l
  unfolding page_length
  page_long = page_length_lem w (rows 0 0 t) all_fit ∙ ap (λ (n : ℕ). line_length * n) (rows_count given lent)

  module _ (page₀ page : List ℕ) (after : page ≡ overwritten (page_text w (rows 0 0 t)) page₀) where
    -- each line says its row
    pub line_says : (k : ℕ) → k < length (numbers_of l) → ReadBack w (get_or (rows 0 0 t) k no_row) (slice (line_length * k) (line_length * (k + 1)) page)
    line_says k h =
        let text = page_text w (rows 0 0 t) in
        let there : k < length (rows 0 0 t) = omega (arith, rows_count given lent) in
        let within : line_length * (k + 1) ≤ length text = omega (arith, page_length_lem w (rows 0 0 t) all_fit) in
        let line : slice (line_length * k) (line_length * (k + 1)) page ≡ row_text w (get_or (rows 0 0 t) k no_row) =
        ap (slice (line_length * k) (line_length * (k + 1))) after
        ∙ ap (drop (line_length * k)) (take-append-le (line_length * (k + 1)) text (drop (length text) page₀) within)
        ∙ page_line w (rows 0 0 t) all_fit k no_row there in
        subst (ReadBack w (get_or (rows 0 0 t) k no_row)) (sym line) (row_read w (get_or (rows 0 0 t) k no_row) (row_fits given lent k there))

    -- beyond the page nothing is changed
    pub page_beyond : drop (page_length l) page ≡ drop (page_length l) page₀
    page_beyond =
        ap (drop (page_length l)) after ∙ drop_at (page_text w (rows 0 0 t)) (drop (length (page_text w (rows 0 0 t))) page₀) (page_length l) page_long
        ∙ ap (λ (n : ℕ). drop n page₀) page_long

  -- ---- the text under a number

  module _ {index : ℕ} {part : List ℕ} (under : TextUnder b w l index part) where
    -- its row is that of the parse listed
    row_is : under.row ≡ get_or (rows 0 0 t) index no_row
    unfolding RowIf
    row_is =
        let (u, other, e) : RowIf (Ok Right) b w l index under.row = rw given.right at under.under.is_row in
        e ∙ ap (λ (v : Tree). get_or (rows 0 0 v) index no_row) (one_listed b given.bytes w l given.right u t other lent)

    pub part_spelled : index < length (numbers_of l) → (s : Tree) × Subtree s t × ((others : List ℕ) × (drop index (numbers_of l) ≡ listing s ++ others)) × (part ≡ yield s)
    part_spelled h =
        let stands = row_stands t index (omega (arith, ap (length {A = ℕ}) lent.listed)) in (
          stands.subtree,
          stands.is_subtree,
          (stands.others, ap (drop index) (sym lent.listed) ∙ stands.begins),
          under.is_part ∙ ap₂ (λ (r : Row) (v : List ℕ). slice r.start r.end v) row_is (sym lent.reading.spells) ∙ stands.spells,
        )

-- Without such a number, or with a listing that is not right, the part is the empty one at the start.
module _ (b w l : List ℕ) (index : ℕ) where
  none_if : (a : ListingAnswer) (r : Row) → (a ≡ Ok Right → length (numbers_of l) ≤ index) → RowIf a b w l index r → r ≡ no_row
  unfolding RowIf
  none_if (Ok Right) r absent h =
      let count = rows_length 0 0 h.0 ∙ ap (length {A = ℕ}) h.1.listed in
      h.2 ∙ get_or-eq_default (rows 0 0 h.0) no_row {n = index} (omega (arith, absent refl))
  none_if (Ok (Wrong k)) r absent h = h
  none_if (Err x) r absent h = h

  pub row_none : (r : Row) → RowUnder b w l index r → (listing_answer b w l ≡ Ok Right → length (numbers_of l) ≤ index) → r ≡ no_row
  row_none r under absent = none_if (listing_answer b w l) r absent under.is_row
