-- `write_right` meets its contract: the rows go to a table, and the lines from there to the page.
use mathlib.Core.Path.{refl}
use native.Mathlib.Omega.{arith}
use Rattle.numbers.proofs.NumbersLaws.{numbers_length}
use Rattle.page.proofs.OutcomeLaws.{page_too_long, table_fits, page_written}
use Rattle.page.proofs.RightLaws.{right_few, RightListing, right_walk}
use Rattle.page.proofs.write_right.Goals as goal

pub overflow_mul-needed : goal.overflow_mul-needed
overflow_mul-needed c =
    let start = c in
    let a = start.args in
    let given : RightListing a.book.now a.text.now a.listing.now = record { bytes = λ k. omega (arith, c.type_inv.book k); right = start.requires } in
    omega (arith, right_few given, numbers_length a.listing.now)

pub returns-then-page-needed : goal.returns-then-page-needed
returns-then-page-needed c =
    let start = c in
    let a = start.args in
    let given : RightListing a.book.now a.text.now a.listing.now = record { bytes = λ k. omega (arith, c.type_inv.book k); right = start.requires } in
    rw c.at.ensures (page_too_long given a.page.now c.if-page-needed.true)

pub place_tree-requires : goal.place_tree-requires
place_tree-requires c =
    let start = c in
    let a = start.args in
    let given : RightListing a.book.now a.text.now a.listing.now = record { bytes = λ k. omega (arith, c.type_inv.book k); right = start.requires } in
    right_walk given _ refl

pub put_rows-requires : goal.put_rows-requires
put_rows-requires c = let start = c in
    let place-tree = c.place_tree in
    let a = start.args in
    let given : RightListing a.book.now a.text.now a.listing.now = record { bytes = λ k. omega (arith, c.type_inv.book k); right = start.requires } in
    let few = right_few given in record { listing_in_bounds = (omega (arith, place-tree.auto.table), omega (arith, place-tree.auto.table)); by_index = table_fits given _ place-tree.new.table refl place-tree.result place-tree.ensures }

pub returns : goal.returns
returns c =
    let start = c in
    let place-tree = c.place_tree in
    let put-rows = c.put_rows in
    let a = start.args in
    let given : RightListing a.book.now a.text.now a.listing.now = record { bytes = λ k. omega (arith, c.type_inv.book k); right = start.requires } in
    page_written given _ place-tree.new.table refl place-tree.result place-tree.ensures a.page.now put-rows.new.out put-rows.result c.if-page-needed.false put-rows.ensures
