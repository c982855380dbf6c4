-- What it is for two productions to be equal (02, [5]), as a relation. That the test of refusal 8 is this one is a law (`equal-exactly`).
use Rattle.std.specs.Prelude.{ℕ, ◌-◌, ◌<◌, ◌≡◌, true, List, ◌⊎◌}
use Rattle.charset.specs.Set.{characters}
use Rattle.classes.specs.Classes.{is_class, class_has}
use Rattle.layout.specs.Layout.{argument_count, result_sort, argument}
use Rattle.layout.specs.Limits.{class_base}

-- Two argument bytes are the same byte, or two classes with the same characters: classes with no character too.
abbrev pub OneArgument : List ℕ → ℕ → ℕ → Type 0
OneArgument b x y =
    (x ≡ y) ⊎ ((is_class b x ≡ true) × (is_class b y ≡ true) × ((c : ℕ) → c < characters → class_has b (x - class_base) c ≡ class_has b (y - class_base) c))

-- Two productions have one result, as many arguments, and the same arguments.
abbrev pub OneProduction : List ℕ → ℕ → ℕ → Type 0
OneProduction b p q =
    (result_sort b p ≡ result_sort b q) × (argument_count b p ≡ argument_count b q) × ((i : ℕ) → i < argument_count b p → OneArgument b (argument b p i) (argument b q i))
