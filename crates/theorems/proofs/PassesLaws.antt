-- Which bytes pass a class, wherever it is asked (02, [6]).
use Prim.Native.Nat.{ℕ, ◌+◌, ◌-◌, ◌<◌}
use mathlib.Core.Bool.{Bool, true}
use mathlib.Core.List.{List}
use mathlib.Core.Logic.{◌↔◌}
use mathlib.Core.Path.{◌≡◌, sym, ◌∙◌, ap}
use native.Mathlib.Omega.{arith}
use Rattle.charset.specs.Set.{characters}
use Rattle.classes.proofs.ClassesLaws.{class_named, class_passes}
use Rattle.classes.specs.Classes.{is_class, class_has, SomeRangeHas}
use Rattle.flatten.proofs.FlatLaws.{flat_of_class}
use Rattle.flatten.specs.Flat.{flat_class}
use Rattle.flatten.specs.Tables.{FlatTables}
use Rattle.flatten.specs.Trees.{Built}
use Rattle.layout.specs.Layout.{classes, argument}
use Rattle.layout.specs.Limits.{class_base}
use Rattle.tables.specs.Layout.{slot, takes_char}
use Rattle.theorems.specs.Theorems.{IsArgument}
use Rattle.theory.specs.Tree.{leaf}

module _ (b : List ℕ) (k c : ℕ) where
  -- a test that is the class's
  pub test_passes : (test : Bool) → test ≡ class_has b k c → (test ≡ true) ↔ SomeRangeHas b k c
  test_passes test e = ((λ h. (class_passes b k c).0 (sym e ∙ h)), (λ h. e ∙ (class_passes b k c).1 h))

  -- its own argument byte
  own_class : k < classes b → is_class b (class_base + k) ≡ true
  own_class l = class_named b (class_base + k) (omega arith) (omega arith)

  own_test : class_has b (class_base + k - class_base) c ≡ class_has b k c
  own_test = let e : class_base + k - class_base ≡ k = omega arith in ap (λ (n : ℕ). class_has b n c) e

  pub tree_passes : k < classes b → Built b (class_base + k) (leaf c) ↔ SomeRangeHas b k c
  unfolding Built
  tree_passes l = ((λ h. (test_passes _ own_test).0 h.1), (λ h. (own_class l, (test_passes _ own_test).1 h)))

  -- an argument that is the class
  module _ (p i : ℕ) (is : IsArgument b p i k) where
    argument_class : is_class b (argument b p i) ≡ true
    argument_class = ap (is_class b) is.class ∙ own_class is.named

    argument_test : class_has b (argument b p i - class_base) c ≡ class_has b k c
    argument_test = ap (λ (n : ℕ). class_has b (n - class_base) c) is.class ∙ own_test

    pub flat_passes : flat_class b p i c ≡ class_has b k c
    flat_passes = flat_of_class b p i c argument_class ∙ argument_test

    pub table_passes : (t : List ℕ) → FlatTables b t → c < characters → takes_char t (slot p i) c ≡ class_has b k c
    table_passes t f l = f.chars_are p i c is.there.0 is.there.1 l ∙ rw argument_class argument_test
