-- Laws of conflicts: the test line by line, and as the patterns of Definition 2.6.
use Prim.Native.Nat.{ℕ, ◌+◌, ◌≤◌, ◌<◌}
use mathlib.Core.Path.{◌≡◌, refl, ap}
use mathlib.Core.Bool.{Bool, false, true, ◌&&◌, ◌||◌, and-false, or-true, or-false}
use mathlib.Core.List.{List}
use mathlib.Core.Logic.{◌↔◌, ⊎_elim}
use native.Mathlib.Omega.{arith}
use native.Mathlib.Decide.{ℕ_discrete}
use lib.Dec.{ltb, eqb}
use borrow.Author.Tests.{lt-ltb, le-leb, lt-leb, eq-eqb, ne_eqb}
use Rattle.common.proofs.BoolLaws.{or_cases, and_first_true, and_second_true}
use Rattle.grammar.specs.Formed.{WellFormed}
use Rattle.layout.specs.Layout.{sorts, productions, argument_count, result_sort, argument}
use Rattle.priority.proofs.PriorityLaws.{higher_chain}
use Rattle.priority.specs.Conflict.{is_sort, fits, is_first, is_last, right_or_nonassoc, left_or_nonassoc, Conflict, anywhere, at_first, at_last, barred, conflicts_in, conflicts}
use Rattle.priority.specs.Priorities.{declarations_of, is_higher}

-- ---- the test, line by line

pub fits_result : (b : List ℕ) → WellFormed b → (p i q : ℕ) → q < productions b → fits b p i q ≡ eqb (argument b p i) (result_sort b q)
unfolding fits is_sort
fits_result b w p i q l =
    elim (ℕ_discrete (argument b p i) (result_sort b q)) [
      | yes e ↦ rw (e, lt-ltb (result_sort b q) (sorts b) (w.result_named q l)) refl
      | no e ↦ rw (ne_eqb (argument b p i) (result_sort b q) e) (and-false (ltb (argument b p i) (sorts b)))
    ]

module _ (b : List ℕ) (p i q : ℕ) where
  pub not_fitting : fits b p i q ≡ false → conflicts b p i q ≡ false
  unfolding conflicts_in
  not_fitting e = rw e refl

  pub fitting : fits b p i q ≡ true → conflicts b p i q ≡ barred b (declarations_of b) p i q
  unfolding conflicts_in
  fitting e = rw e refl

  pub barred_higher : is_higher b p q ≡ true → barred b (declarations_of b) p i q ≡ true
  unfolding barred
  barred_higher e = rw e refl

  pub barred_single : is_higher b p q ≡ false → argument_count b p < 2 → barred b (declarations_of b) p i q ≡ false
  unfolding barred is_first is_last
  barred_single e l =
      rw (e, lt-leb 2 (argument_count b p) l, and-false (eqb i 0), and-false (eqb (i + 1) (argument_count b p))) refl

  pub barred_first : is_higher b p q ≡ false → 2 ≤ argument_count b p → i ≡ 0 → barred b (declarations_of b) p i q ≡ right_or_nonassoc (declarations_of b) p q
  unfolding barred is_first is_last
  barred_first e l z =
      rw (e, le-leb 2 (argument_count b p) l, eq-eqb i 0 z, ne_eqb (i + 1) (argument_count b p) (λ h. omega arith)) (or-false (right_or_nonassoc (declarations_of b) p q))

  pub barred_last : is_higher b p q ≡ false → 2 ≤ argument_count b p → (i ≡ 0 → ⊥) → i + 1 ≡ argument_count b p → barred b (declarations_of b) p i q ≡ left_or_nonassoc (declarations_of b) p q
  unfolding barred is_first is_last
  barred_last e l z m = rw (e, le-leb 2 (argument_count b p) l, ne_eqb i 0 z, eq-eqb (i + 1) (argument_count b p) m) refl

  pub barred_middle : is_higher b p q ≡ false → (i ≡ 0 → ⊥) → (i + 1 ≡ argument_count b p → ⊥) → barred b (declarations_of b) p i q ≡ false
  unfolding barred is_first is_last
  barred_middle e z m = rw (e, ne_eqb i 0 z, ne_eqb (i + 1) (argument_count b p) m) refl

-- ---- the test is Definition 2.6

module _ (b : List ℕ) (w : WellFormed b) (p i q : ℕ) where
  conflict_found : conflicts b p i q ≡ true → Conflict b p i q
  unfolding conflicts_in barred
  conflict_found e =
      let fit = and_first_true (fits b p i q) (barred b (declarations_of b) p i q) e in
      ⊎_elim
      (λ a. ⊎_elim
      (λ h. anywhere fit ((higher_chain b w p q).0 h))
      (λ h. at_first fit (and_first_true (is_first b p i) (right_or_nonassoc (declarations_of b) p q) h) (and_second_true (is_first b p i) (right_or_nonassoc (declarations_of b) p q) h))
      (or_cases (is_higher b p q) (is_first b p i && right_or_nonassoc (declarations_of b) p q) a))
      (λ h. at_last fit (and_first_true (is_last b p i) (left_or_nonassoc (declarations_of b) p q) h) (and_second_true (is_last b p i) (left_or_nonassoc (declarations_of b) p q) h))
      (or_cases (is_higher b p q || is_first b p i && right_or_nonassoc (declarations_of b) p q) (is_last b p i && left_or_nonassoc (declarations_of b) p q) (and_second_true (fits b p i q) (barred b (declarations_of b) p i q) e))

  conflict_tested : Conflict b p i q → conflicts b p i q ≡ true
  unfolding conflicts_in barred
  conflict_tested (anywhere fit h) = rw (fit, (higher_chain b w p q).1 h) refl
  conflict_tested (at_first fit f h) = rw (fit, f, h) (ap (λ (z : Bool). z || is_last b p i && left_or_nonassoc (declarations_of b) p q) (or-true (is_higher b p q)))
  conflict_tested (at_last fit f h) = rw (fit, f, h) (or-true (is_higher b p q || is_first b p i && right_or_nonassoc (declarations_of b) p q))

  pub conflict_test : (conflicts b p i q ≡ true) ↔ Conflict b p i q
  conflict_test = (conflict_found, conflict_tested)
