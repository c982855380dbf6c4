-- Laws of the page's text: each line has its length.
use Prim.Native.Nat.{ℕ, suc, ◌+◌, ◌*◌, ◌^◌, ◌<◌}
use mathlib.Core.List.{List, [], ◌∷◌, ◌++◌}
use mathlib.Core.Path.{◌≡◌, refl, ◌∙◌, ap}
use native.Mathlib.Omega.{arith}
use lib.ListN.{length, length-append}
use Rattle.common.proofs.ListLaws.{length_tabulate}
use Rattle.common.specs.Lists.{All, tabulate, joined}
use Rattle.lines.specs.Text.{number_width, place_width, text_width, line_length, shown, column, row_text, page_text, RowFits}
use Rattle.rows.specs.declared.Row.{Row}
use Rattle.writing.proofs.NumeralLaws.{numeral_fits, set_right_length}
use Rattle.writing.specs.Bytes.{space, line_feed}
use Rattle.writing.specs.Numeral.{numeral_base, set_right}

-- ---- a column

pub column_long : (width n : ℕ) → length (column width n) ≡ length (set_right width n) + 1
unfolding column
column_long width n = length-append (set_right width n) (space ∷ [])

-- a number that fits its column
pub column_length : (k n : ℕ) → n < numeral_base ^ (suc k) → length (column (suc k) n) ≡ suc k + 1
column_length k n h = column_long (suc k) n ∙ ap (λ (m : ℕ). m + 1) (set_right_length (suc k) n (numeral_fits k n h))

-- ---- a line

module _ (w : List ℕ) (r : Row) (fits : RowFits w r) where
  -- its four numbers take their columns and the spaces behind them
  pub columns_length : (length (column number_width r.depth) ≡ number_width + 1) × (length (column number_width r.number) ≡ number_width + 1)
      × (length (column place_width r.start) ≡ place_width + 1) × (length (column place_width r.end) ≡ place_width + 1)
  columns_length =
      (column_length 3 r.depth fits.depth, column_length 3 r.number fits.number, column_length 2 r.start fits.start, column_length 2 r.end fits.end)

  pub row_length : length (row_text w r) ≡ line_length
  unfolding row_text
  row_length =
      let depth = column number_width r.depth in
      let number = column number_width r.number in
      let start = column place_width r.start in
      let end = column place_width r.end in
      let text = tabulate text_width (shown w r.start r.end) in
      omega (
        arith,
        length-append (depth ++ number ++ start ++ end ++ text) (line_feed ∷ []),
        length-append (depth ++ number ++ start ++ end) text,
        length-append (depth ++ number ++ start) end,
        length-append (depth ++ number) start,
        length-append depth number,
        columns_length.0,
        columns_length.1,
        columns_length.2,
        columns_length.3,
        length_tabulate text_width (shown w r.start r.end),
      )

-- ---- the page

pub page_length_lem : (w : List ℕ) (rs : List Row) → All (RowFits w) rs → length (page_text w rs) ≡ line_length * length rs
unfolding page_text joined
page_length_lem w [] h = refl
page_length_lem w (r ∷ rs) h = omega (arith, length-append (row_text w r) (page_text w rs), row_length w r h.0, page_length_lem w rs h.1)
