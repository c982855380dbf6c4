-- Laws of equal productions (02, [5]): what it is for two to be equal, and that it goes both ways.
use Prim.Native.Nat.{ℕ, ◌-◌}
use mathlib.Core.Path.{◌≡◌, sym}
use mathlib.Core.Bool.{true, ◌&&◌}
use mathlib.Core.List.{List}
use mathlib.Core.Logic.{◌↔◌, inl, inr, ⊎_elim}
use native.Mathlib.Omega.{arith}
use lib.Dec.{eqb}
use borrow.Author.Tests.{eqb-true, eq-eqb}
use Rattle.charset.proofs.SameSetLaws.{same_when, same_has}
use Rattle.classes.specs.Classes.{is_class, class_has, same_class, same_argument}
use Rattle.common.proofs.BelowLaws.{all_each, all_here}
use Rattle.common.proofs.BoolLaws.{or_cases, or_first, or_second, and_both, and_first_true, and_second_true}
use Rattle.grammar.specs.Check.{same_production}
use Rattle.grammar.specs.Equal.{OneArgument, OneProduction}
use Rattle.layout.specs.Layout.{argument_count, result_sort, argument}
use Rattle.layout.specs.Limits.{class_base}

module _ (b : List ℕ) where
  one_argument_sym : (x y : ℕ) → OneArgument b x y → OneArgument b y x
  one_argument_sym x y = ⊎_elim (λ e. inl (sym e)) (λ (i, j, same). inr (j, i, λ c l. sym (same c l)))

  -- two argument bytes are the same argument by the test
  pub argument_exactly : (x y : ℕ) → (same_argument b x y ≡ true) ↔ OneArgument b x y
  unfolding same_argument same_class
  argument_exactly x y =
      let own = class_has b (x - class_base) in
      let other = class_has b (y - class_base) in
      let classed = is_class b x && is_class b y in
      let sets = same_class b (x - class_base) (y - class_base) in (
        (λ e. ⊎_elim
            (λ f. inl (eqb-true x y f))
            (λ f. let both = and_first_true classed sets f in
            inr (and_first_true (is_class b x) (is_class b y) both, and_second_true (is_class b x) (is_class b y) both, same_has own other (and_second_true classed sets f)))
            (or_cases (eqb x y) (classed && sets) e)),
        ⊎_elim
            (λ e. or_first (eqb x y) (classed && sets) (eq-eqb x y e))
            (λ (i, j, same). or_second (eqb x y) (classed && sets) (and_both classed sets (and_both (is_class b x) (is_class b y) i j) (same_when own other same))),
      )

  -- and two productions are equal
  pub equal_exactly : (p q : ℕ) → (same_production b p q ≡ true) ↔ OneProduction b p q
  unfolding same_production
  equal_exactly p q =
      let results = eqb (result_sort b p) (result_sort b q) in
      let counts = eqb (argument_count b p) (argument_count b q) in (
        (λ e. let ends = and_first_true (results && counts) _ e in (
          eqb-true (result_sort b p) (result_sort b q) (and_first_true results counts ends),
          eqb-true (argument_count b p) (argument_count b q) (and_second_true results counts ends),
          λ i l. (argument_exactly (argument b p i) (argument b q i)).0 (all_here _ (argument_count b p) (and_second_true (results && counts) _ e) i l),
        )),
        (λ (e, f, same). and_both (results && counts) _
            (and_both results counts (eq-eqb (result_sort b p) (result_sort b q) e) (eq-eqb (argument_count b p) (argument_count b q) f))
            (all_each _ (argument_count b p) (λ i l. (argument_exactly (argument b p i) (argument b q i)).1 (same i l)))),
      )

  pub equal_sym : (p q : ℕ) → same_production b p q ≡ true → same_production b q p ≡ true
  equal_sym p q h =
      let (e, f, same) = (equal_exactly p q).0 h in
      (equal_exactly q p).1 (sym e, sym f, λ i l. one_argument_sym (argument b p i) (argument b q i) (same i (omega arith)))
