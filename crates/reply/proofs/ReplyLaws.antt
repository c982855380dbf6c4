-- Which replies fit.
use Prim.Native.Nat.{ℕ, ◌<◌}
use native.Mathlib.Omega.{arith}
use Rattle.reply.specs.Reply.{answered, refused_by, refused, kind_limit, value_limit, Fits}
use Rattle.refusal.proofs.FaultLaws.{small_number}
use Rattle.refusal.specs.declared.Refusal.{Refusal}

pub answered_fits : (kind value : ℕ) → kind < kind_limit → value < value_limit → Fits (answered kind value)
answered_fits kind value k v = record { kind = k; value = v }

pub refused_fits : (number place : ℕ) → number < value_limit → Fits (refused_by number place)
refused_fits number place h = record { kind = omega arith; value = h }

-- the numbers of the faults are small
pub refusal_fits : (r : Refusal) → Fits (refused r)
refusal_fits r = refused_fits _ r.place (omega (arith, small_number r.fault))
