-- `check_accepted` meets its contract: 10, 11, and then the numbers by the tables.
use Prim.Native.Nat.{ℕ, ◌<◌}
use mathlib.Core.Path.{◌∙◌, ap}
use native.Mathlib.Omega.{arith}
use lib.ListN.{get_or}
use Rattle.charset.specs.Set.{characters}
use Rattle.listing.proofs.WalkLaws.{tables_judged}
use Rattle.listing.proofs.check_accepted.Goals as goal
use Rattle.std.specs.Prelude.{Ok}
use Rattle.listing.specs.declared.Judgement.{Judgement}

pub returns : goal.returns
returns c =
    let flat = c in
    let told = flat in
    let start = told in
    let a = start.args in
    let bytes : (k : ℕ) → get_or a.book.now k 0 < characters = λ k. omega (arith, told.type_inv.book k) in
    rw (← told.check_input.ensures, told.in_ok-check_input.was)
    (ap (λ (j : Judgement). Ok j) (c.judge.ensures ∙ tables_judged a.book.now start.requires bytes flat.flatten.new.tables flat.flatten.ensures a.text.now a.listing.now))
