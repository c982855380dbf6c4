-- `place_tree` meets its contract: the trees of the arguments are placed one behind the other. The numbers left fall.
use Prim.Native.Nat.{◌<◌, ◌-◌}
use native.Mathlib.Omega.{arith}
use Rattle.layout.specs.Layout.{argument_count}
use Rattle.numbers.specs.Numbers.{numbers_of}
use Rattle.rows.proofs.WalkLaws.{Found, walk_there, walk_character, walk_production, walk_begun, walk_within, walk_argument, walk_placed, walk_all}
use Rattle.theory.specs.Tree.{production_number}
use Rattle.rows.proofs.+place_tree.Goals as goal

pub number_at-n-requires : goal.number_at-n-requires
number_at-n-requires t c = (walk_there c.requires).0

pub overflow_add-place : goal.overflow_add-place
overflow_add-place t c = let there = walk_there c.requires in omega arith

pub put_row-requires : goal.put_row-requires
put_row-requires t c =
    let there = walk_there c.requires in
    (there.1, omega arith, omega arith, omega arith)

pub overflow_add-result : goal.overflow_add-result
overflow_add-result t c =
    let start = c in
    let there = walk_there start.requires in omega (arith, start.requires.few)

pub overflow_add-result-then-n-lt-CHARACTERS : goal.overflow_add-result-then-n-lt-CHARACTERS
overflow_add-result-then-n-lt-CHARACTERS t c = let there = walk_there c.requires in omega arith

pub returns-then-n-lt-CHARACTERS : goal.returns-then-n-lt-CHARACTERS
returns-then-n-lt-CHARACTERS t c =
    let number_at = c.number_at-n in
    let a = c.args in
    let found : Found a.book.now (numbers_of a.listing.now) a.at number_at.result = record { bytes = λ k. omega (arith, c.type_inv.book k); here = number_at.ensures } in
    λ u listed. rw c.put_row.ensures (walk_character found c.if-n-lt-CHARACTERS.true u listed)

pub overflow_sub-n : goal.overflow_sub-n
overflow_sub-n t c =
    let start = c in
    let a = start.args in
    let found : Found a.book.now (numbers_of a.listing.now) a.at c.number_at-n.result = record { bytes = λ k. omega (arith, c.type_inv.book k); here = c.number_at-n.ensures } in
    (walk_production found start.requires c.if-n-lt-CHARACTERS.false).0

pub argument_count-end-requires-clause-p_bound : goal.argument_count-end-requires-clause-p_bound
argument_count-end-requires-clause-p_bound t c = let start = c in
    let a = start.args in
    let found : Found a.book.now (numbers_of a.listing.now) a.at c.number_at-n.result = record { bytes = λ k. omega (arith, c.type_inv.book k); here = c.number_at-n.ensures } in
    (walk_production found start.requires c.if-n-lt-CHARACTERS.false).1

pub loop-init : goal.loop-init
loop-init t c = walk_begun

pub place_tree-next-requires : goal.place_tree-next-requires
place_tree-next-requires t c =
    let start = c in
    let number_at = c.number_at-n in
    let if1 = c.if-n-lt-CHARACTERS in
    let turn = c.loop in
    let a = start.args in
    let found : Found a.book.now (numbers_of a.listing.now) a.at number_at.result = record { bytes = λ k. omega (arith, c.type_inv.book k); here = number_at.ensures } in
    let left : turn.counter < argument_count a.book.now (number_at.result - production_number 0) = omega (arith, c.argument_count-end.ensures) in
    let within = walk_within found start.requires if1.false turn.invariant in
    (omega (arith, start.decreases, walk_there start.requires), walk_argument found start.requires if1.false turn.invariant c.loop.auto.table left)

pub loop-preserved : goal.loop-preserved
loop-preserved t c =
    let start = c in
    let number_at = c.number_at-n in
    let turn = c.loop in
    let place-tree = c.place_tree-next in
    let a = start.args in
    let found : Found a.book.now (numbers_of a.listing.now) a.at number_at.result = record { bytes = λ k. omega (arith, c.type_inv.book k); here = number_at.ensures } in
    let left : turn.counter < argument_count a.book.now (number_at.result - production_number 0) = omega (arith, c.argument_count-end.ensures) in
    walk_placed found start.requires c.if-n-lt-CHARACTERS.false turn.invariant left place-tree.ensures

pub put_row-requires-2 : goal.put_row-requires-2
put_row-requires-2 t c =
    let start = c in
    let number_at = c.number_at-n in
    let turn = c.loop in
    let a = start.args in
    let found : Found a.book.now (numbers_of a.listing.now) a.at number_at.result = record { bytes = λ k. omega (arith, c.type_inv.book k); here = number_at.ensures } in
    let there = walk_there start.requires in
    let within = walk_within found start.requires c.if-n-lt-CHARACTERS.false turn.invariant in
    (omega (arith, c.loop.auto.table), omega arith, omega arith, omega (arith, start.requires.room, start.requires.few))

pub returns : goal.returns
returns t c =
    let start = c in
    let number_at = c.number_at-n in
    let a = start.args in
    let found : Found a.book.now (numbers_of a.listing.now) a.at number_at.result = record { bytes = λ k. omega (arith, c.type_inv.book k); here = number_at.ensures } in
    λ u listed. rw c.put_row-2.ensures (walk_all found start.requires c.if-n-lt-CHARACTERS.false c.loop.invariant (omega (arith, c.argument_count-end.ensures)) u listed)
