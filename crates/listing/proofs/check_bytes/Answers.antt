-- `check_bytes` meets its contract.
use mathlib.Core.Path.{sym}
use native.Mathlib.Omega.{arith}
use Rattle.listing.proofs.BadListingLaws.{odd_listing, long_listing, listing_accepted}
use Rattle.listing.proofs.check_bytes.Goals as goal

pub returns-then-listing-eq1 : goal.returns-then-listing-eq1
returns-then-listing-eq1 c = rw c.at.ensures (sym (odd_listing c.args.listing.now c.if-listing-eq1.true))

pub returns-then-listing-gt-BYTE_LIMIT : goal.returns-then-listing-gt-BYTE_LIMIT
returns-then-listing-gt-BYTE_LIMIT c = rw c.at-then-listing-gt-BYTE_LIMIT.ensures (sym (long_listing c.args.listing.now c.if-listing-gt-BYTE_LIMIT.true))

pub returns : goal.returns
returns c = sym (listing_accepted c.args.listing.now (omega (arith, c.if-listing-eq1.false)) c.if-listing-gt-BYTE_LIMIT.false)
