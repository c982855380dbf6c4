-- `refused_byte` meets its contract: no other fault has the number 22.
use mathlib.Core.Path.{refl}
use borrow.Author.Tests.{ne_eqb}
use Rattle.refusal.proofs.FaultLaws.{own_number}
use Rattle.refusal.specs.Fault.{number_of}
use Rattle.refusal.specs.declared.Fault.TheVariants.{LongListing}
use Rattle.sheet.specs.Outcome.{fault_byte}
use Rattle.sheet.proofs.refused_byte.Goals as goal

pub returns-in-LongListing : goal.returns-in-LongListing
unfolding fault_byte
returns-in-LongListing c = rw c.in-LongListing.is refl

pub returns-in_default : goal.returns-in_default
unfolding fault_byte
returns-in_default c = rw (ne_eqb (number_of c.args.fault) 22 (λ e. c.in_default.not-LongListing (own_number c.args.fault LongListing e))) refl
