-- `production_right` meets its contract: a number of a production that is there, and its bit in the slot's class.
use mathlib.Core.Bool.{and-false}
use mathlib.Core.Path.{refl}
use native.Mathlib.Omega.{arith}
use lib.Dec.{leb}
use lib.ListN.{length}
use borrow.Author.Tests.{lt-ltb, le-ltb, le-leb, lt-leb}
use Rattle.tables.proofs.LayoutLaws.{counts_few}
use Rattle.tables.specs.Layout.{counts_of}
use Rattle.theory.specs.Tree.{production_number}
use Rattle.listing.proofs.production_right.Goals as goal

pub returns-then-n-lt-FIRST_PRODUCTION : goal.returns-then-n-lt-FIRST_PRODUCTION
returns-then-n-lt-FIRST_PRODUCTION c = rw (lt-leb (production_number 0) c.args.n c.if-n-lt-FIRST_PRODUCTION.true) refl

pub returns-then-production_count-n : goal.returns-then-production_count-n
returns-then-production_count-n c =
    let a = c.args in
    rw (le-ltb a.n (production_number (length (counts_of a.tables.now))) (omega (arith, c.production_count.ensures)), and-false (leb (production_number 0) a.n)) refl

pub takes_production-requires : goal.takes_production-requires
takes_production-requires c =
    let start = c in
    (start.requires.0.long, start.requires.1, omega (arith, c.production_count.ensures, counts_few start.args.tables.now start.requires.0))

pub returns : goal.returns
returns c =
    let a = c.args in
    rw (le-leb (production_number 0) a.n (omega arith), lt-ltb a.n (production_number (length (counts_of a.tables.now))) (omega (arith, c.production_count.ensures))) c.takes_production.ensures
