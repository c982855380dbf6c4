-- What the machine's code has to know of a spot: its numbers are small.
use Prim.Native.Nat.{ℕ, ◌+◌, ◌-◌, ◌*◌, ◌≤◌, ◌<◌}
use mathlib.Core.Path.{◌≡◌, refl, subst}
use mathlib.Core.Bool.{Bool, false, true, cond}
use native.Mathlib.Omega.{arith}
use lib.Dec.{leb, eqb}
use borrow.Author.Tests.{leb-true}
use Rattle.ccg.specs.Text.{dash, bracket_open, backslash, bracket_close, number_limit}
use Rattle.common.proofs.BoolLaws.{and_first_true, and_second_true}
use Rattle.form.specs.Step.{allowed, state, ending_length, ending_byte, behind_number, in_number, behind_open, behind_slash, behind_dash, in_line, behind_class, in_ending, step_at, SmallSpot, ShortSpot}
use Rattle.form.specs.declared.Spot.{Spot}
use Rattle.form.specs.declared.Spot.TheVariants.{Between, Opened, Slash, Number, Dash, Closed, Ending, Stuck}
use Rattle.layout.specs.Limits.{production_limit, argument_limit}
use Rattle.writing.specs.Bytes.{space}
use Rattle.writing.specs.Digits.{digit_nine, is_digit}
use Rattle.writing.specs.Numeral.{digit_zero, numeral_base}

-- a digit has a value below the base
pub digit_value : (b : ℕ) → is_digit b ≡ true → (digit_zero ≤ b) × (b - digit_zero < numeral_base)
unfolding is_digit
digit_value b e =
    let low = leb-true digit_zero b (and_first_true (leb digit_zero b) (leb b digit_nine) e) in
    let high = leb-true b digit_nine (and_second_true (leb digit_zero b) (leb b digit_nine) e) in
    (low, omega arith)

pub short_number : (s : Spot) (dashed : Bool) (low v : ℕ) → ShortSpot s → s ≡ Number dashed low v → v < number_limit * numeral_base
unfolding ShortSpot
short_number s dashed low v h e = subst ShortSpot e h

pub small_number : (r : ℕ) (s : Spot) (dashed : Bool) (low v : ℕ) → SmallSpot r s → s ≡ Number dashed low v → v < number_limit
unfolding SmallSpot
small_number r s dashed low v h e = subst (SmallSpot r) e h

pub small_ending : (r : ℕ) (s : Spot) (k : ℕ) → SmallSpot r s → s ≡ Ending k → (r < production_limit) × (k < ending_length)
unfolding SmallSpot
small_ending r s k h e = subst (SmallSpot r) e h

-- ---- one byte more

short_if : (t : Bool) (x y : Spot) → (t ≡ true → ShortSpot x) → ShortSpot y → ShortSpot (cond t x y)
short_if true x y h k = h refl
short_if false x y h k = k

short_behind : (dashed : Bool) (v b : ℕ) → ShortSpot (behind_number dashed v b)
unfolding behind_number ShortSpot
short_behind dashed v b =
    short_if (eqb b dash) (cond dashed Stuck (Dash (v + 1))) (cond (eqb b backslash) (Slash false (v + 2)) (cond (eqb b bracket_close) Closed Stuck))
    (λ e. short_if dashed Stuck (Dash (v + 1)) (λ f. tt) tt)
    (short_if (eqb b backslash) (Slash false (v + 2)) (cond (eqb b bracket_close) Closed Stuck) (λ e. tt) (short_if (eqb b bracket_close) Closed Stuck (λ e. tt) tt))

short_number_step : (dashed : Bool) (low v b : ℕ) → v < number_limit → ShortSpot (in_number dashed low v b)
unfolding in_number ShortSpot
short_number_step dashed low v b h =
    let more = Number dashed low (v * numeral_base + (b - digit_zero)) in
    short_if (is_digit b) (cond (eqb v 0) Stuck more) (cond (allowed low v) (behind_number dashed v b) Stuck)
    (λ e. short_if (eqb v 0) Stuck more (λ f. tt) (omega (arith, (digit_value b e).1)))
    (short_if (allowed low v) (behind_number dashed v b) Stuck (λ e. short_behind dashed v b) tt)

-- a state whose numbers are small has a next one whose value is short enough to be tested
pub short_after : (r a : ℕ) (s : Spot) (b : ℕ) → SmallSpot r s → ShortSpot (step_at r a s b).spot
unfolding step_at in_line behind_open behind_slash behind_dash behind_class in_ending SmallSpot ShortSpot
short_after r a Between b h =
    short_if (leb production_limit r) Stuck (cond (eqb b dash) (Ending 1) (cond (leb argument_limit a) Stuck (cond (eqb b bracket_open) Opened Stuck))) (λ e. tt)
    (short_if (eqb b dash) (Ending 1) (cond (leb argument_limit a) Stuck (cond (eqb b bracket_open) Opened Stuck)) (λ e. tt)
    (short_if (leb argument_limit a) Stuck (cond (eqb b bracket_open) Opened Stuck) (λ e. tt) (short_if (eqb b bracket_open) Opened Stuck (λ e. tt) tt)))
short_after r a Opened b h =
    short_if (eqb b backslash) (Slash false 0) (cond (eqb b bracket_close) Closed Stuck) (λ e. tt) (short_if (eqb b bracket_close) Closed Stuck (λ e. tt) tt)
short_after r a (Slash dashed low) b h = short_if (is_digit b) (Number dashed low (b - digit_zero)) Stuck (λ e. omega (arith, (digit_value b e).1)) tt
short_after r a (Number dashed low v) b h = short_number_step dashed low v b h
short_after r a (Dash low) b h = short_if (eqb b backslash) (Slash true low) Stuck (λ e. tt) tt
short_after r a Closed b h = elim (eqb b space) as (λ (t : Bool). ShortSpot (cond t (state r (a + 1) Between) (state r a Stuck)).spot) [ true ↦ tt | false ↦ tt ]
short_after r a (Ending k) b h =
    elim (eqb b (ending_byte r k)) as (λ (t : Bool). ShortSpot (cond t (cond (eqb (k + 1) ending_length) (state (r + 1) 0 Between) (state r a (Ending (k + 1)))) (state r a Stuck)).spot) [
      | true ↦ elim (eqb (k + 1) ending_length) as (λ (t : Bool). ShortSpot (cond t (state (r + 1) 0 Between) (state r a (Ending (k + 1)))).spot) [ true ↦ tt | false ↦ tt ]
      | false ↦ tt
    ]
short_after r a Stuck b h = tt
