-- `answer` meets its contract, part by part.
use mathlib.Core.Path.{refl, sym}
use native.Mathlib.Omega.{arith}
use Rattle.listing.proofs.EndLaws.{numbers_left, text_left, nothing_left}
use Rattle.numbers.proofs.NumbersLaws.{numbers_length}
use Rattle.numbers.specs.Numbers.{numbers_of}
use Rattle.listing.specs.Parts.{after_part}
use Rattle.listing.proofs.answer.Goals as goal

pub returns-then-next-listing : goal.returns-then-next-listing
unfolding after_part
returns-then-next-listing c =
    let a = c.args in
    let part = c.in-Ok in
    let e = numbers_length a.listing.now in
    λ g. rw part.is (sym (numbers_left g (numbers_of a.listing.now) a.text.now part.next.number part.next.place (omega arith)))

pub returns-then-next-text : goal.returns-then-next-text
unfolding after_part
returns-then-next-text c =
    let a = c.args in
    let part = c.in-Ok in
    let e = numbers_length a.listing.now in
    λ g. rw part.is (sym (text_left g (numbers_of a.listing.now) a.text.now part.next.number part.next.place (omega arith) c.if-next-text.true))

pub returns-in-Err : goal.returns-in-Err
unfolding after_part
returns-in-Err c = λ g. rw c.in-Err.is refl

pub returns-else-next-text : goal.returns-else-next-text
unfolding after_part
returns-else-next-text c =
    let a = c.args in
    let part = c.in-Ok in
    let e = numbers_length a.listing.now in
    λ g. rw part.is (sym (nothing_left g (numbers_of a.listing.now) a.text.now part.next.number part.next.place (omega arith) (omega arith)))
