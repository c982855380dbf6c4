-- Which line of 01 is the lowest by which a conflict holds.
use Prim.Native.Nat.{ℕ, ◌+◌, ◌≤◌}
use mathlib.Core.Path.{◌≡◌, refl}
use mathlib.Core.Bool.{true}
use mathlib.Core.List.{List}
use native.Mathlib.Omega.{arith}
use lib.Dec.{leb, eqb}
use borrow.Author.Tests.{eqb-true, leb-true}
use Rattle.common.proofs.BoolLaws.{and_first_true, and_second_true}
use Rattle.layout.specs.Layout.{argument_count}
use Rattle.priority.specs.Conflict.{fits, is_first, is_last, right_or_nonassoc, left_or_nonassoc, Conflict, anywhere, at_first, at_last}
use Rattle.priority.specs.Priorities.{declarations_of, Higher}
use Rattle.reason.specs.Reason.{line_of, LowestLine}

module _ (b : List ℕ) (p i q : ℕ) where
  fit_of : Conflict b p i q → fits b p i q ≡ true
  fit_of (anywhere fit above) = fit
  fit_of (at_first fit first declared) = fit
  fit_of (at_last fit last declared) = fit

  first_zero : is_first b p i ≡ true → i ≡ 0
  unfolding is_first
  first_zero e = eqb-true i 0 (and_first_true (eqb i 0) (leb 2 (argument_count b p)) e)

  last_not_zero : is_last b p i ≡ true → i ≡ 0 → ⊥
  unfolding is_last
  last_not_zero e z =
      let end = eqb-true (i + 1) (argument_count b p) (and_first_true (eqb (i + 1) (argument_count b p)) (leb 2 (argument_count b p)) e) in
      let two = leb-true 2 (argument_count b p) (and_second_true (eqb (i + 1) (argument_count b p)) (leb 2 (argument_count b p)) e) in
      omega (arith, end, two)

  some_line : (c : Conflict b p i q) → 1 ≤ line_of c
  unfolding line_of
  some_line (anywhere fit above) = omega arith
  some_line (at_first fit first declared) = omega arith
  some_line (at_last fit last declared) = omega arith

  -- line 1
  pub line_higher : Conflict b p i q → Higher b p q → LowestLine b p i q 1
  unfolding line_of
  line_higher c h = record { conflict = anywhere (fit_of c) h; is_line = refl; lowest = some_line }

  module _ (no : Higher b p q → ⊥) where
    later_line : (c : Conflict b p i q) → 2 ≤ line_of c
    unfolding line_of
    later_line (anywhere fit above) = absurd (no above)
    later_line (at_first fit first declared) = omega arith
    later_line (at_last fit last declared) = omega arith

    -- line 2
    pub line_first : Conflict b p i q → i ≡ 0 → LowestLine b p i q 2 × (right_or_nonassoc (declarations_of b) p q ≡ true)
    unfolding line_of
    line_first (anywhere fit above) z = absurd (no above)
    line_first (at_first fit first declared) z = (record { conflict = at_first fit first declared; is_line = refl; lowest = later_line }, declared)
    line_first (at_last fit last declared) z = absurd (last_not_zero last z)

    -- line 3
    module _ (away : i ≡ 0 → ⊥) where
      last_line : (c : Conflict b p i q) → 3 ≤ line_of c
      unfolding line_of
      last_line (anywhere fit above) = absurd (no above)
      last_line (at_first fit first declared) = absurd (away (first_zero first))
      last_line (at_last fit last declared) = omega arith

      pub line_last : Conflict b p i q → LowestLine b p i q 3 × (left_or_nonassoc (declarations_of b) p q ≡ true)
      unfolding line_of
      line_last (anywhere fit above) = absurd (no above)
      line_last (at_first fit first declared) = absurd (away (first_zero first))
      line_last (at_last fit last declared) = (record { conflict = at_last fit last declared; is_line = refl; lowest = last_line }, declared)
