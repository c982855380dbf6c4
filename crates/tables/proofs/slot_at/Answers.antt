-- `slot_at` meets its contract.
use native.Mathlib.Omega.{arith}
use mathlib.Core.Path.{refl}
use Rattle.tables.specs.Layout.{slot_at}
use Rattle.tables.proofs.slot_at.Goals as goal

pub returns : goal.returns
unfolding slot_at
returns c = record { place = refl; within = omega arith }
