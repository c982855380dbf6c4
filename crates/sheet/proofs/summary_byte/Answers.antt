-- `summary_byte` meets its contract, answer by answer.
use mathlib.Core.Path.{refl}
use Rattle.sheet.specs.Outcome.{byte_of}
use Rattle.sheet.proofs.summary_byte.Goals as goal

pub returns-in-None : goal.returns-in-None
unfolding byte_of
returns-in-None c = rw c.in-None.is refl

pub returns-in-One : goal.returns-in-One
unfolding byte_of
returns-in-One c = rw c.in-One.is refl

pub returns-in-Several : goal.returns-in-Several
unfolding byte_of
returns-in-Several c = rw c.in-Several.is refl

pub returns-in-Refused : goal.returns-in-Refused
unfolding byte_of
returns-in-Refused c = rw (c.in-Refused.is, c.refused_byte.ensures) refl
