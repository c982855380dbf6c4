-- `places_under` meets its contract.
use Prim.Native.Nat.{ℕ, ◌<◌}
use mathlib.Core.Path.{refl}
use native.Mathlib.Omega.{arith}
use lib.ListN.{get_or}
use Rattle.charset.specs.Set.{characters}
use Rattle.page.proofs.OutcomeLaws.{under_short}
use Rattle.page.proofs.places_under.Goals as goal

pub overflow_mul-result : goal.overflow_mul-result
overflow_mul-result c =
    let a = c.args in
    let bytes : (k : ℕ) → get_or a.book.now k 0 < characters = λ k. omega (arith, c.type_inv.book k) in
    let short = under_short a.book.now a.text.now a.listing.now bytes a.index c.row_under-row.result c.row_under-row.ensures in
    omega (arith, c.row_under-row.ensures.ordered)

pub overflow_add-result : goal.overflow_add-result
overflow_add-result c =
    let row_under = c.row_under-row in
    let a = c.args in
    let bytes : (k : ℕ) → get_or a.book.now k 0 < characters = λ k. omega (arith, c.type_inv.book k) in
    let short = under_short a.book.now a.text.now a.listing.now bytes a.index row_under.result row_under.ensures in
    omega (arith, row_under.ensures.ordered)

pub returns : goal.returns
returns c =
    let row_under = c.row_under-row in
    record { row = row_under.result; under = row_under.ensures; says = refl }
