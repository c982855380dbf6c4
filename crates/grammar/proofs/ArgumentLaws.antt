-- Laws of the argument bytes of a grammar that the checks accept.
use Prim.Native.Nat.{ℕ, ◌+◌, ◌<◌}
use mathlib.Core.Path.{◌≡◌}
use mathlib.Core.Bool.{false, true}
use mathlib.Core.List.{List}
use mathlib.Core.Logic.{⊎_elim}
use native.Mathlib.Omega.{arith}
use lib.Dec.{leb, ltb}
use borrow.Author.Tests.{ltb-true}
use Rattle.classes.proofs.ClassesLaws.{no_class_below}
use Rattle.classes.specs.Classes.{is_class}
use Rattle.common.proofs.BoolLaws.{and_second_true, or_cases}
use Rattle.grammar.specs.Check.{names_argument}
use Rattle.grammar.specs.Formed.{WellFormed}
use Rattle.layout.specs.Framed.{Framed}
use Rattle.layout.specs.Layout.{sorts, productions, classes, argument_count, argument}
use Rattle.layout.specs.Limits.{class_base}

-- a sort is no class
pub sort_no_class : (b : List ℕ) → WellFormed b → (x : ℕ) → x < sorts b → is_class b x ≡ false
sort_no_class b w x l = no_class_below b x (omega (arith, w.framed.few_sorts))

-- a byte that names a sort or a class is below the bytes past the last class
named_below : (b : List ℕ) (x : ℕ) → Framed b → names_argument b x ≡ true → x < class_base + classes b
unfolding names_argument is_class
named_below b x f e =
    ⊎_elim
    (λ a. omega (arith, ltb-true x (sorts b) a, f.few_sorts))
    (λ a. ltb-true x (class_base + classes b) (and_second_true (leb class_base x) (ltb x (class_base + classes b)) a))
    (or_cases (ltb x (sorts b)) (is_class b x) e)

-- so is every argument byte
pub argument_below : (b : List ℕ) → WellFormed b → (p i : ℕ) → p < productions b → i < argument_count b p → argument b p i < class_base + classes b
argument_below b w p i lp li = named_below b (argument b p i) w.framed (w.argument_named p i lp li)
