-- `number_at` meets its contract.
use mathlib.Core.Path.{sym, ◌∙◌}
use native.Mathlib.Omega.{arith}
use Rattle.numbers.proofs.NumbersLaws.{numbers_length, numbers_at}
use Rattle.numbers.proofs.number_at.Goals as goal

pub overflow_mul-at : goal.overflow_mul-at
overflow_mul-at c = let e = numbers_length c.args.listing.now in omega arith

pub two_bytes-requires : goal.two_bytes-requires
two_bytes-requires c = let e = numbers_length c.args.listing.now in omega arith

pub returns : goal.returns
returns c =
    let start = c in
    c.two_bytes.ensures ∙ sym (numbers_at start.args.listing.now start.args.at start.requires)
