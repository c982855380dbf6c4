-- `put_range` meets its contract.
use Prim.Native.Nat.{ℕ, ◌+◌, ◌≤◌}
use mathlib.Core.Path.{◌≡◌, refl, sym, ◌∙◌, ap}
use mathlib.Core.List.{◌∷◌, ◌++◌}
use native.Mathlib.Omega.{arith}
use native.Mathlib.Decide.{ℕ_discrete}
use lib.ListN.{length, length-append}
use borrow.Author.Tests.{eq-eqb, ne_eqb}
use Rattle.ccg.specs.Text.{range_text, dash, backslash}
use Rattle.charset.specs.Runs.{range}
use Rattle.writing.proofs.PutLaws.{put_append, put_same}
use Rattle.writing.specs.Numeral.{numeral}
use Rattle.ccg.proofs.put_range.Goals as goal

one : (n m : ℕ) → n ≡ m → backslash ∷ numeral n ≡ range_text (range n m)
unfolding range_text
one n m e = sym (rw (eq-eqb n m e) refl)

two : (n m : ℕ) → (n ≡ m → ⊥) → (backslash ∷ numeral n) ++ (dash ∷ (backslash ∷ numeral m)) ≡ range_text (range n m)
unfolding range_text
two n m e = sym (rw (ne_eqb n m e) refl)

two_long : (n m : ℕ) → (n ≡ m → ⊥) → length (range_text (range n m)) ≡ length (backslash ∷ numeral n) + length (dash ∷ (backslash ∷ numeral m))
two_long n m e = ap (length {A = ℕ}) (sym (two n m e)) ∙ length-append (backslash ∷ numeral n) (dash ∷ (backslash ∷ numeral m))

-- the text of a range begins with its low number
low_fits : (n m : ℕ) → length (backslash ∷ numeral n) ≤ length (range_text (range n m))
low_fits n m =
    elim (ℕ_discrete n m) [
      | yes e ↦ omega (arith, ap (length {A = ℕ}) (one n m e))
      | no e ↦ omega (arith, two_long n m e)
    ]

pub put_number-first-requires : goal.put_number-first-requires
put_number-first-requires c = omega (arith, low_fits c.args.low c.args.high)

pub returns-then-low-high : goal.returns-then-low-high
returns-then-low-high c =
    let a = c.args in
    put_same _ _ _ _ _ _ (one a.low a.high c.if-low-high.true) c.put_number-first.ensures

pub put-dash-requires : goal.put-dash-requires
put-dash-requires c =
    let a = c.args in
    omega (arith, two_long a.low a.high c.if-low-high.false)

pub put_number-requires : goal.put_number-requires
put_number-requires c =
    let a = c.args in
    omega (arith, two_long a.low a.high c.if-low-high.false)

pub returns : goal.returns
returns c =
    let a = c.args in
    put_same _ _ _ _ _ _ (two a.low a.high c.if-low-high.false)
    (put_append _ _ _ _ _ _ _ _ c.put_number-first.ensures (put_append _ _ _ _ _ _ _ _ c.put-dash.ensures c.put_number.ensures))
