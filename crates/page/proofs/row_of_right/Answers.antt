-- `row_of_right` meets its contract.
use mathlib.Core.Path.{refl, sym, subst}
use native.Mathlib.Omega.{arith}
use Rattle.numbers.proofs.NumbersLaws.{numbers_length}
use Rattle.page.proofs.OutcomeLaws.{row_beyond, row_there}
use Rattle.page.proofs.RightLaws.{right_few, RightListing, right_walk}
use Rattle.page.specs.Answer.{RowUnder}
use Rattle.page.proofs.row_of_right.Goals as goal

pub returns-then-listing-index : goal.returns-then-listing-index
returns-then-listing-index c =
    let start = c in
    let a = start.args in
    let given : RightListing a.book.now a.text.now a.listing.now = record { bytes = λ k. omega (arith, c.type_inv.book k); right = start.requires } in
    subst (RowUnder a.book.now a.text.now a.listing.now a.index) (sym c.no_row.ensures) (row_beyond given a.index c.if-listing-index.true)

pub place_tree-requires : goal.place_tree-requires
place_tree-requires c =
    let start = c in
    let a = start.args in
    let given : RightListing a.book.now a.text.now a.listing.now = record { bytes = λ k. omega (arith, c.type_inv.book k); right = start.requires } in
    right_walk given _ refl

pub row_at-requires : goal.row_at-requires
row_at-requires c =
    let start = c in
    let a = start.args in
    let given : RightListing a.book.now a.text.now a.listing.now = record { bytes = λ k. omega (arith, c.type_inv.book k); right = start.requires } in
    let few = right_few given in
    (omega (arith, numbers_length a.listing.now), omega (arith, numbers_length a.listing.now, c.place_tree.auto.table))

pub returns : goal.returns
returns c =
    let start = c in
    let place-tree = c.place_tree in
    let a = start.args in
    let given : RightListing a.book.now a.text.now a.listing.now = record { bytes = λ k. omega (arith, c.type_inv.book k); right = start.requires } in
    subst (RowUnder a.book.now a.text.now a.listing.now a.index) (sym c.row_at.ensures)
    (row_there given _ place-tree.new.table refl place-tree.result place-tree.ensures a.index (omega (arith, numbers_length a.listing.now)))
