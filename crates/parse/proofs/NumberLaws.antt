-- The numbers of refusals are those of 01's table: none is above 22.
use Prim.Native.Nat.{ℕ, ◌≤◌}
use mathlib.Core.Path.{◌≡◌}
use mathlib.Core.List.{List}
use native.Mathlib.Omega.{arith}
use Rattle.refusal.specs.Verdict.{Verdict}
use Rattle.parse.proofs.RefusalLaws.{refusal_number}
use Rattle.parse.specs.Outcome.{refusal}
use Rattle.priority.proofs.RefusalLaws.{checked_number}
use Rattle.priority.specs.Check.{checked}
use Rattle.std.specs.Prelude.{Err}
use Rattle.refusal.specs.declared.Refusal.{Refusal}
use Rattle.refusal.specs.Fault.{number_of}

-- the largest number of a refusal
abbrev pub largest_number : ℕ
largest_number = 22

-- if v is a refusal, its number is one of them
pub record Numbered (v : Verdict) : Type 0 where
  pub small : (r : Refusal) → v ≡ Err r → number_of r.fault ≤ largest_number

pub grammar_numbered : (b : List ℕ) → Numbered (checked b)
grammar_numbered b = record { small = λ r e. omega (arith, checked_number b e) }

pub refusal_numbered : (b w chart : List ℕ) → Numbered (refusal b w chart)
refusal_numbered b w chart = record { small = λ r e. omega (arith, refusal_number b w chart e) }
