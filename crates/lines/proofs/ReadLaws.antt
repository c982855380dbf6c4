-- A row can be read back from its line, and a line from the page.
use Prim.Native.Nat.{ℕ, zero, suc, ◌+◌, ◌*◌, ◌^◌, ◌<◌}
use mathlib.Core.List.{List, [], ◌∷◌, ◌++◌, append_assoc, append-nil, map}
use mathlib.Core.Path.{◌≡◌, refl, sym, ◌∙◌, ap}
use native.Mathlib.Omega.{arith}
use lib.ListN.{length, get_or, take, drop, length-append, get_or-append}
use lib.Seq.{append_snoc, take-append-add, drop-append-add, get_or-append-add, take_at, drop_at, get_or_at, slice}
use Rattle.common.proofs.ListLaws.{length_tabulate, get_d_tabulate}
use Rattle.common.specs.Lists.{All, tabulate, joined}
use Rattle.lines.proofs.TextLaws.{columns_length, row_length}
use Rattle.lines.specs.Read.{ReadBack}
use Rattle.lines.specs.Text.{number_width, place_width, text_width, line_length, shown, column, row_text, page_text, RowFits}
use Rattle.rows.specs.declared.Row.{Row}
use Rattle.writing.proofs.DigitsLaws.{numerals_none, numerals_pass, numerals_right}
use Rattle.writing.proofs.NumeralLaws.{numeral_fits, set_right_length, set_right_value}
use Rattle.writing.specs.Bytes.{space, line_feed}
use Rattle.writing.specs.Digits.{numerals_in}
use Rattle.writing.specs.Numeral.{numeral_base, numeral, set_right, value_of}

-- ---- a part of a list

-- the middle one of three lists
middle : (a v c : List ℕ) (i j : ℕ) → length a ≡ i → length a + length v ≡ j → slice i j (a ++ v ++ c) ≡ v
middle a v c i j e f = ap (drop i) (take_at (a ++ v) c j (length-append a v ∙ f)) ∙ drop_at a v i e

-- a part that begins behind the first of two lists
behind : (a l : List ℕ) (i j m n : ℕ) → length a + i ≡ m → length a + j ≡ n → slice m n (a ++ l) ≡ slice i j l
behind a l i j m n e f = rw (sym e, sym f, take-append-add a l j) (drop-append-add a (take j l) i)

-- ---- a column

-- A number that fits its column is read back from it, with the space behind it.
column_read : (a c : List ℕ) (k n i : ℕ) → n < numeral_base ^ (suc k) → length a ≡ i
    → (value_of (slice i (i + suc k) (a ++ column (suc k) n ++ c)) ≡ n) × (get_or (a ++ column (suc k) n ++ c) (i + suc k) 0 ≡ space)
unfolding column
column_read a c k n i h e =
    let v = set_right (suc k) n in
    let long : length a + length v ≡ i + suc k = omega (arith, e, set_right_length (suc k) n (numeral_fits k n h)) in
    let parts : a ++ (v ++ (space ∷ [])) ++ c ≡ a ++ v ++ (space ∷ c) = rw (sym (append_assoc a v (space ∷ []))) (append_snoc (a ++ v) space c) in
    let digits = middle a v (space ∷ c) i (i + suc k) e long in
    let after = get_or_at (a ++ v) space c 0 (i + suc k) (length-append a v ∙ long) in
    (rw (parts, digits) (set_right_value (suc k) n), rw parts after)

-- Its numeral is found, whatever follows.
column_numeral : (width n : ℕ) (s : List ℕ) → numerals_in (column width n ++ s) ≡ numeral n ∷ numerals_in s
unfolding column
column_numeral width n s =
    ap numerals_in (append_snoc (set_right width n) space s) ∙ numerals_right width n (space ∷ s) (λ d. omega arith)
    ∙ ap (λ (l : List (List ℕ)). numeral n ∷ l) (numerals_pass space s (λ d. omega arith))

-- ---- a line

-- the four columns have the four numerals
columns_numerals : (r : Row)
    → numerals_in (column number_width r.depth ++ column number_width r.number ++ column place_width r.start ++ column place_width r.end)
    ≡ map numeral (r.depth ∷ r.number ∷ r.start ∷ r.end ∷ [])
columns_numerals r =
    let a = column number_width r.depth in
    let b = column number_width r.number in
    let c = column place_width r.start in
    let d = column place_width r.end in
    let parts : a ++ b ++ c ++ d ≡ a ++ (b ++ (c ++ (d ++ []))) =
    sym (append-nil (a ++ b ++ c ++ d)) ∙ append_assoc (a ++ b ++ c) d [] ∙ append_assoc (a ++ b) c (d ++ []) ∙ append_assoc a b (c ++ (d ++ [])) in
    rw (
      parts,
      column_numeral number_width r.depth (b ++ (c ++ (d ++ []))),
      column_numeral number_width r.number (c ++ (d ++ [])),
      column_numeral place_width r.start (d ++ []),
      column_numeral place_width r.end [],
      numerals_none,
    ) refl

pub row_read : (w : List ℕ) (r : Row) → RowFits w r → ReadBack w r (row_text w r)
unfolding row_text
row_read w r fits =
    let a = column number_width r.depth in
    let b = column number_width r.number in
    let c = column place_width r.start in
    let d = column place_width r.end in
    let text = tabulate text_width (shown w r.start r.end) in
    let rest = text ++ (line_feed ∷ []) in
    -- where each column begins
    let two : length (a ++ b) ≡ 10 = omega (arith, length-append a b, (columns_length w r fits).0, (columns_length w r fits).1) in
    let three : length (a ++ b ++ c) ≡ 14 = omega (arith, length-append (a ++ b) c, two, (columns_length w r fits).2) in
    let four : length (a ++ b ++ c ++ d) ≡ 18 = omega (arith, length-append (a ++ b ++ c) d, three, (columns_length w r fits).3) in
    let five : length (a ++ b ++ c ++ d ++ text) ≡ 72 = omega (arith, length-append (a ++ b ++ c ++ d) text, four, length_tabulate text_width (shown w r.start r.end)) in
    -- the line, cut behind each column
    let cut4 : row_text w r ≡ a ++ b ++ c ++ d ++ rest = append_assoc (a ++ b ++ c ++ d) text (line_feed ∷ []) in
    let cut3 : row_text w r ≡ a ++ b ++ c ++ (d ++ rest) = cut4 ∙ append_assoc (a ++ b ++ c) d rest in
    let cut2 : row_text w r ≡ a ++ b ++ (c ++ (d ++ rest)) = cut3 ∙ append_assoc (a ++ b) c (d ++ rest) in
    let cut1 : row_text w r ≡ a ++ (b ++ (c ++ (d ++ rest))) = cut2 ∙ append_assoc a b (c ++ (d ++ rest)) in
    -- what each column says
    let depth = column_read [] (b ++ (c ++ (d ++ rest))) 3 r.depth 0 fits.depth refl in
    let number = column_read a (c ++ (d ++ rest)) 3 r.number 5 fits.number (columns_length w r fits).0 in
    let start = column_read (a ++ b) (d ++ rest) 2 r.start 10 fits.start two in
    let end = column_read (a ++ b ++ c) rest 2 r.end 14 fits.end three in
    record {
      depth = rw cut1 depth.0;
      number = rw cut2 number.0;
      start = rw cut3 start.0;
      end = rw cut4 end.0;
      numerals = ap numerals_in (ap (take 18) cut4 ∙ take_at (a ++ b ++ c ++ d) rest 18 four) ∙ columns_numerals r;
      spaces = (rw cut1 depth.1, rw cut2 number.1, rw cut3 start.1, rw cut4 end.1);
      text = λ k l.
          get_or-append (a ++ b ++ c ++ d ++ text) (line_feed ∷ []) 0 (18 + k) (omega (arith, five))
          ∙ rw four at (get_or-append-add (a ++ b ++ c ++ d) text k 0)
          ∙ get_d_tabulate text_width (shown w r.start r.end) k 0 l;
      last = get_or_at (a ++ b ++ c ++ d ++ text) line_feed [] 0 72 five;
    }

-- ---- the page

-- line k of a page
pub page_line : (w : List ℕ) (rs : List Row) → All (RowFits w) rs → (k : ℕ) (d : Row) → k < length rs
    → slice (line_length * k) (line_length * (k + 1)) (page_text w rs) ≡ row_text w (get_or rs k d)
unfolding page_text joined
page_line w [] h k d l = absurd (omega arith)
page_line w (r ∷ rs) h zero d l =
    middle [] (row_text w r) (page_text w rs) (line_length * 0) (line_length * (0 + 1)) (omega arith) (omega (arith, row_length w r h.0))
page_line w (r ∷ rs) h (suc k) d l =
    let long = row_length w r h.0 in
    behind (row_text w r) (page_text w rs) (line_length * k) (line_length * (k + 1)) (line_length * suc k) (line_length * (suc k + 1)) (omega (arith, long)) (omega (arith, long))
    ∙ page_line w rs h.1 k d (omega arith)
