-- Laws of faults: each has a number of its own, and none has 6.
use Prim.Native.Nat.{ℕ, ◌≤◌}
use mathlib.Core.Path.{◌≡◌, refl, sym, ◌∙◌, ap}
use native.Mathlib.Omega.{arith}
use Rattle.std.specs.Prelude.{cond, eqb}
use Rattle.refusal.specs.Fault.{number_of}
use Rattle.refusal.specs.declared.Fault.{Fault}
use Rattle.refusal.specs.declared.Fault.TheVariants.{Short, Header, Count, Length, Name, Absent, Repeated, Circle, LongText, BadListing, ShortChart, LongFlat, LongListing, WrongListing, LongPage, LongSheet, ShortSummary, Form, NoLine, WrongPair}

-- the fault with a number
abbrev fault_of : ℕ → Fault
fault_of n =
    (cond (eqb n 1) Short
    (cond (eqb n 2) Header
    (cond (eqb n 3) Count
    (cond (eqb n 4) Length
    (cond (eqb n 5) Name
    (cond (eqb n 7) Absent
    (cond (eqb n 8) Repeated
    (cond (eqb n 9) Circle
    (cond (eqb n 10) LongText
    (cond (eqb n 11) BadListing
    (cond (eqb n 20) ShortChart
    (cond (eqb n 21) LongFlat
    (cond (eqb n 22) LongListing
    (cond (eqb n 23) WrongListing
    (cond (eqb n 24) LongPage
    (cond (eqb n 25) LongSheet
    (cond (eqb n 26) ShortSummary
    (cond (eqb n 27) Form
    (cond (eqb n 28) NoLine
    (cond (eqb n 29) WrongPair
    Short))))))))))))))))))))

same_fault : (f : Fault) → fault_of (number_of f) ≡ f
same_fault Short = refl
same_fault Header = refl
same_fault Count = refl
same_fault Length = refl
same_fault Name = refl
same_fault Absent = refl
same_fault Repeated = refl
same_fault Circle = refl
same_fault LongText = refl
same_fault BadListing = refl
same_fault ShortChart = refl
same_fault LongFlat = refl
same_fault LongListing = refl
same_fault WrongListing = refl
same_fault LongPage = refl
same_fault LongSheet = refl
same_fault ShortSummary = refl
same_fault Form = refl
same_fault NoLine = refl
same_fault WrongPair = refl

pub own_number : (f g : Fault) → number_of f ≡ number_of g → f ≡ g
own_number f g e = sym (same_fault f) ∙ ap fault_of e ∙ same_fault g

pub never_six : (f : Fault) → number_of f ≡ 6 → ⊥
never_six Short e = omega arith
never_six Header e = omega arith
never_six Count e = omega arith
never_six Length e = omega arith
never_six Name e = omega arith
never_six Absent e = omega arith
never_six Repeated e = omega arith
never_six Circle e = omega arith
never_six LongText e = omega arith
never_six BadListing e = omega arith
never_six ShortChart e = omega arith
never_six LongFlat e = omega arith
never_six LongListing e = omega arith
never_six WrongListing e = omega arith
never_six LongPage e = omega arith
never_six LongSheet e = omega arith
never_six ShortSummary e = omega arith
never_six Form e = omega arith
never_six NoLine e = omega arith
never_six WrongPair e = omega arith

pub small_number : (f : Fault) → number_of f ≤ 29
small_number Short = omega arith
small_number Header = omega arith
small_number Count = omega arith
small_number Length = omega arith
small_number Name = omega arith
small_number Absent = omega arith
small_number Repeated = omega arith
small_number Circle = omega arith
small_number LongText = omega arith
small_number BadListing = omega arith
small_number ShortChart = omega arith
small_number LongFlat = omega arith
small_number LongListing = omega arith
small_number WrongListing = omega arith
small_number LongPage = omega arith
small_number LongSheet = omega arith
small_number ShortSummary = omega arith
small_number Form = omega arith
small_number NoLine = omega arith
small_number WrongPair = omega arith
