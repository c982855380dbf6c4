-- The answer of an operation, in the form in which all calls give it (include/meadowsink.h): a kind and a value, in one number, and the place of a refusal.
use Rattle.std.specs.Prelude.{ℕ, ◌+◌, ◌*◌, ◌^◌, ◌<◌}
use Rattle.reply.specs.declared.Reply.{Reply}
use Rattle.refusal.specs.Fault.{number_of as fault_number}
use Rattle.refusal.specs.declared.Refusal.{Refusal}

-- kinds are below this
abbrev pub kind_limit : ℕ
kind_limit = 4

-- the kind of a refusal
abbrev pub refused_kind : ℕ
refused_kind = 3

-- what is no refusal has no place
abbrev pub answered : ℕ → ℕ → Reply
answered kind value = record { kind = kind; value = value; place = 0 }

-- the value of a refusal is its number
abbrev pub refused_by : (number place : ℕ) → Reply
refused_by number place = record { kind = refused_kind; value = number; place = place }

abbrev pub refused : Refusal → Reply
refused r = refused_by (fault_number r.fault) r.place

-- 4 × value + kind
abbrev pub number_of : Reply → ℕ
number_of r = kind_limit * r.value + r.kind

-- the place of a refusal, 0 for none
abbrev pub place_of : Reply → ℕ
place_of r = r.place

-- values are below this
abbrev pub value_limit : ℕ
value_limit = 2 ^ 62

-- a reply whose number has 64 bits
pub record Fits (r : Reply) : Type 0 where
  pub kind : r.kind < kind_limit
  pub value : r.value < value_limit
