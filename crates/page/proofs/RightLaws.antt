-- What a listing that is right gives: the parse that it lists, and rows that fit the page.
use Prim.Native.Nat.{ℕ, ◌≤◌, ◌<◌}
use mathlib.Core.List.{List, [], append-nil}
use mathlib.Core.Path.{◌≡◌, sym, ◌∙◌, ap}
use native.Mathlib.Omega.{arith}
use lib.ListN.{length, get_or}
use Rattle.charset.specs.Set.{characters}
use Rattle.chart.specs.Layout.{text_limit}
use Rattle.common.proofs.AllLaws.{all_at}
use Rattle.grammar.specs.Formed.{WellFormed}
use Rattle.layout.proofs.FramedLaws.{bodies_in}
use Rattle.layout.specs.Layout.{start_sort}
use Rattle.listing.proofs.RefusedLaws.{right_exactly}
use Rattle.listing.specs.Answer.{listing_answer}
use Rattle.numbers.proofs.NumbersLaws.{numbers_length}
use Rattle.numbers.specs.Numbers.{listing_limit, numbers_of}
use Rattle.page.specs.Answer.{Listed}
use Rattle.lines.specs.Text.{RowFits}
use Rattle.priority.proofs.CheckLaws.{accepted_formed}
use Rattle.rows.proofs.BuiltLaws.{SomeNumber, built_numbers}
use Rattle.rows.proofs.RowsLaws.{row_number, rows_length, row_within}
use Rattle.rows.specs.Rows.{no_row, rows}
use Rattle.rows.specs.Walk.{ListedAt, WalkFrom}
use Rattle.theory.specs.Tree.{Tree, yield, listing}
use Rattle.listing.specs.declared.Judgement.TheVariants.{Right}
use Rattle.std.specs.Prelude.{Ok}

-- The listing l of the text w is right by grammar b, which has bytes.
pub record RightListing (b w l : List ℕ) : Type 0 where
  pub bytes : (k : ℕ) → get_or b k 0 < characters
  pub right : listing_answer b w l ≡ Ok Right

module _ {b w l : List ℕ} (given : RightListing b w l) where
  pub right_formed : WellFormed b
  right_formed = accepted_formed b ((right_exactly b w l given.bytes).0 given.right).0

  pub right_short : length w ≤ text_limit
  right_short = ((right_exactly b w l given.bytes).0 given.right).1

  pub right_few : length (numbers_of l) ≤ listing_limit
  right_few = let h = ((right_exactly b w l given.bytes).0 given.right).3 in omega (arith, numbers_length l)

  pub right_tree : (t : Tree) × Listed b w l t
  right_tree = let (t, reading, listed) = ((right_exactly b w l given.bytes).0 given.right).4 in (t, record { reading = reading; listed = listed })

  -- ---- the parse listed

  module _ {t : Tree} (lent : Listed b w l t) where
    -- it is listed from the first number on
    pub listed_whole : ListedAt b (numbers_of l) 0 t
    listed_whole =
        record { sort = start_sort b; built = lent.reading.built; others = []; begins = sym lent.listed ∙ sym (append-nil (listing t)) }

    pub rows_count : length (rows 0 0 t) ≡ length (numbers_of l)
    rows_count = rows_length 0 0 t ∙ ap (length {A = ℕ}) lent.listed

    pub yield_count : length (yield t) ≡ length w
    yield_count = ap (length {A = ℕ}) lent.reading.spells

    -- the numbers of its rows fit their columns
    pub row_fits : (k : ℕ) → k < length (rows 0 0 t) → RowFits w (get_or (rows 0 0 t) k no_row)
    row_fits k h =
        let within = row_within 0 0 t k h in
        let number = row_number 0 0 t k in
        let numbers = built_numbers b given.bytes right_formed.framed.few_productions t (start_sort b) lent.reading.built in
        let small = all_at SomeNumber (listing t) k 0 numbers (omega (arith, rows_length 0 0 t)) in
        record {
          depth = omega (arith, within.1, rows_length 0 0 t, rows_count, right_few);
          number = omega arith;
          start = omega (arith, within.3, within.4, yield_count, right_short);
          end = omega (arith, within.4, yield_count, right_short);
          within = omega (arith, within.4, yield_count);
        }

  -- the walk may begin at the first number
  pub right_walk : (table : List ℕ) → length table ≡ listing_limit → WalkFrom b (numbers_of l) table 0 0 0
  right_walk table long =
      let (t, lent) = right_tree in
      record {
        tree = t;
        listed = listed_whole lent;
        framed = bodies_in b right_formed.framed;
        room = omega (arith, right_few);
        few = omega arith;
        deep = omega arith;
        far = omega arith;
      }
