-- The rows that a table says are those that were put there.
use Prim.Native.Nat.{ℕ, ◌+◌, ◌*◌, ◌/◌, ◌%◌, ◌≤◌, ◌<◌}
use mathlib.Core.List.{List}
use mathlib.Core.Path.{◌≡◌, sym, ◌∙◌, ap, ap₂}
use native.Mathlib.Omega.{arith}
use lib.ListN.{length, get_or, length-map, get_or-map, get_or-append}
use lib.Seq.{ext_get_or, sets}
use Rattle.common.proofs.ListLaws.{length_tabulate, get_d_tabulate}
use Rattle.common.proofs.OverwrittenLaws.{sets_front}
use Rattle.common.specs.Lists.{tabulate}
use Rattle.rows.proofs.RowsLaws.{row_number, rows_length, row_within}
use Rattle.rows.specs.Rows.{row, no_row, rows}
use Rattle.rows.specs.Table.{places, packed, word, unpacked, table_rows}
use Rattle.rows.specs.Walk.{words}
use Rattle.rows.specs.declared.Row.{Row}
use Rattle.theory.specs.Tree.{Tree, yield, listing}

-- a word says its row, if the places are in range
unpacked_word : (r : Row) → r.start < places → r.end < places → unpacked r.number (word r) ≡ r
unfolding packed unpacked
unpacked_word r s e =
    let x = (r.depth * places + r.start) * places + r.end in
    let depth : x / places / places ≡ r.depth = omega arith in
    let start : x / places % places ≡ r.start = omega arith in
    let end : x % places ≡ r.end = omega arith in
    λ i. row (depth i) r.number (start i) (end i)

module _ (t : Tree) (table₀ table : List ℕ) (wrote : table ≡ sets table₀ 0 (words 0 0 t)) (room : length (listing t) ≤ length table₀) (short : length (yield t) < places) where
  words_long : length (words 0 0 t) ≡ length (listing t)
  words_long = length-map (rows 0 0 t) word ∙ rows_length 0 0 t

  -- the word of a number
  word_at : (k : ℕ) → k < length (listing t) → get_or table k 0 ≡ word (get_or (rows 0 0 t) k no_row)
  unfolding packed
  word_at k l =
      ap (λ (v : List ℕ). get_or v k 0) (wrote ∙ sets_front (words 0 0 t) table₀ (omega (arith, words_long)))
      ∙ get_or-append (words 0 0 t) _ 0 k (omega (arith, words_long))
      ∙ get_or-map word (rows 0 0 t) k no_row

  -- the row of a number
  pub row_said : (k : ℕ) → k < length (listing t) → unpacked (get_or (listing t) k 0) (get_or table k 0) ≡ get_or (rows 0 0 t) k no_row
  row_said k l =
      let r = get_or (rows 0 0 t) k no_row in
      let within = row_within 0 0 t k (omega (arith, rows_length 0 0 t)) in
      ap₂ unpacked (sym (row_number 0 0 t k)) (word_at k l) ∙ unpacked_word r (omega arith) (omega arith)

  -- all rows
  pub rows_said : table_rows (listing t) table ≡ rows 0 0 t
  unfolding table_rows
  rows_said =
      let made : ℕ → Row = λ k. unpacked (get_or (listing t) k 0) (get_or table k 0) in
      let long = length_tabulate (length (listing t)) made in
      ext_get_or no_row (tabulate (length (listing t)) made) (rows 0 0 t) (long ∙ sym (rows_length 0 0 t))
      (λ k l. get_d_tabulate (length (listing t)) made k no_row (omega arith) ∙ row_said k (omega arith))
