-- Verdicts on an input, and how one is made of many checks: the first refusal stands (01, "Refused because of the input").
use Rattle.std.specs.Prelude.{ℕ, zero, suc, Bool, cond, List, [], ◌∷◌, Result, Ok, Err, ⊤, ◌≡◌}
use Rattle.refusal.specs.Fault.{number_of}
use Rattle.refusal.specs.declared.Fault.{Fault}
use Rattle.refusal.specs.declared.Refusal.{Refusal}

-- Accepted, or refused with a fault and its place.
abbrev pub Verdict : Type 0
Verdict = Result ⊤ Refusal

abbrev pub accepted : Verdict
accepted = Ok tt

abbrev pub refusal : Fault → ℕ → Refusal
refusal fault place = record { fault = fault; place = place }

abbrev pub refused : {A : Type 0} → Fault → ℕ → Result A Refusal
refused fault place = Err (refusal fault place)

-- What is said of a refusal's number and place.
abbrev pub by_number : (ℕ → ℕ → Type 0) → Refusal → Type 0
by_number Q r = Q (number_of r.fault) r.place

-- An answer is a refusal with this number and this place.
abbrev pub RefusedBy : {A : Type 0} → Result A Refusal → ℕ → ℕ → Type 0
RefusedBy v number place = (r : Refusal) × (v ≡ Err r) × (number_of r.fault ≡ number) × (r.place ≡ place)

-- Refused with this fault and place if the test holds.
abbrev pub refuse_if : Bool → Fault → ℕ → Verdict
refuse_if test fault place = cond test (refused fault place) accepted

-- One check, and if it accepts the next.
abbrev pub and_then : Verdict → Verdict → Verdict
and_then (Ok _) next = next
and_then (Err r) next = Err r

-- The first refusal of the checks 0, 1, … n - 1.
unfoldable pub first_refusal : ℕ → (ℕ → Verdict) → Verdict
first_refusal zero check = accepted
first_refusal (suc n) check = and_then (first_refusal n check) (check n)

-- The first refusal of a list of checks.
abbrev pub in_order : List Verdict → Verdict
in_order [] = accepted
in_order (v ∷ []) = v
in_order (v ∷ w ∷ vs) = and_then v (in_order (w ∷ vs))

-- An operation refuses what a check refuses, with the same fault and place, and only then answers for itself.
abbrev pub unless_refused : {A : Type 0} → Verdict → Result A Refusal → Result A Refusal
unless_refused (Ok _) answer = answer
unless_refused (Err r) answer = Err r
