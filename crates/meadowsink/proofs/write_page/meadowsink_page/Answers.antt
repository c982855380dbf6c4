-- `meadowsink_page` meets its contract: the number is that of the answer, and the buffer is as writing leaves it.
use Prim.Native.Nat.{ℕ, ◌<◌}
use mathlib.Core.Path.{◌∙◌, ap}
use native.Mathlib.Omega.{arith}
use lib.ListN.{length, get_or}
use Rattle.charset.specs.Set.{characters}
use Rattle.meadowsink.proofs.FitLaws.{page_fits}
use Rattle.reply.specs.Reply.{number_of}
use Rattle.meadowsink.proofs.write_page.meadowsink_page.Goals as goal

pub number-requires : goal.number-requires
number-requires c =
    let a = c.args in
    let bytes : (k : ℕ) → get_or a.book.now k 0 < characters = λ k. omega (arith, c.type_inv.book k) in
    rw (c.count_reply.ensures, c.write_page.ensures.answer) (page_fits a.book.now a.text.now a.listing.now bytes (length a.page.now))

pub returns : goal.returns
returns c =
    let made = c.write_page in
    record { answer = made.result; outcome = made.ensures; is_number = c.number.ensures ∙ ap number_of c.count_reply.ensures }
