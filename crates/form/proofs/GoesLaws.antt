-- Where the test says that a text goes on, one does; and where one goes on, it went on at every byte before.
use Prim.Native.Nat.{ℕ, suc, ◌+◌, ◌-◌, ◌*◌, ◌/◌, ◌%◌, ◌≤◌, ◌<◌}
use mathlib.Core.Bool.{Bool, false, true, cond, false≢true}
use mathlib.Core.List.{List, [], ◌∷◌, ◌++◌}
use mathlib.Core.Logic.{⊎_elim, by_cases}
use mathlib.Core.Path.{◌≡◌, refl, ◌∙◌, ap, subst⁻¹}
use native.Mathlib.Decide.{dec_lt}
use native.Mathlib.Nat.{le_refl}
use native.Mathlib.Omega.{arith}
use lib.Dec.{eqb}
use lib.ListN.{drop}
use borrow.Author.Tests.{le-leb, leb-true}
use Rattle.ccg.specs.Text.{backslash, bracket_close, result_text}
use Rattle.charset.specs.Runs.{Range}
use Rattle.common.proofs.BoolLaws.{true_or_false}
use Rattle.form.proofs.NumberLaws.{Begins, whole, with_digit, with_two, allowed_kind, begun_some, some_begun, begun_shorter, begun_from, not_zero}
use Rattle.form.proofs.StepLaws.{digit_value}
use Rattle.form.proofs.StepsLaws.{steps_none, steps_more, steps_append, next_digit, steps_numeral, number_close, dash_slash, opened_ready, closed_space, steps_close, steps_ending, steps_result, lines_end}
use Rattle.form.specs.Read.{Expected}
use Rattle.form.specs.Step.{last_from, allowed, begun, state, ending_length, behind_number, in_number, behind_slash, behind_dash, step_at, step, steps, goes_on, may_end}
use Rattle.form.specs.declared.Spot.{Spot}
use Rattle.form.specs.declared.Spot.TheVariants.{Between, Opened, Slash, Number, Dash, Closed, Ending, Stuck}
use Rattle.form.specs.declared.State.{State}
use Rattle.layout.specs.Limits.{production_limit}
use Rattle.theory.specs.Tree.{production_number}
use Rattle.writing.specs.Bytes.{space}
use Rattle.writing.specs.Digits.{is_digit}
use Rattle.writing.specs.Numeral.{digit_zero, numeral}

-- ---- backwards

-- a test that leads on or else to nothing
pub on_if : (t : Bool) (s : Spot) → goes_on (cond t s Stuck) ≡ true → (t ≡ true) × (goes_on s ≡ true)
unfolding goes_on
on_if true s h = (refl, h)
on_if false s h = absurd (false≢true h)

pub on_unless : (t : Bool) (s : Spot) → goes_on (cond t Stuck s) ≡ true → (t ≡ false) × (goes_on s ≡ true)
unfolding goes_on
on_unless true s h = absurd (false≢true h)
on_unless false s h = (refl, h)

number_back : (dashed : Bool) (low v b : ℕ) → goes_on (in_number dashed low v b) ≡ true → begun low v ≡ true
unfolding in_number goes_on
number_back dashed low v b h =
    ⊎_elim
    (λ e. let (some, more) = on_unless (eqb v 0) (Number dashed low (v * 10 + (b - digit_zero))) (rw e at h) in
    begun_shorter low v (b - digit_zero) (not_zero v some) (digit_value b e).1 more)
    (λ e. some_begun low v v (on_if (allowed low v) (behind_number dashed v b) (rw e at h)).0 (whole refl))
    (true_or_false (is_digit b))

pub on_back : (r a : ℕ) (s : Spot) (b : ℕ) → goes_on (step_at r a s b).spot ≡ true → goes_on s ≡ true
unfolding step_at goes_on behind_slash behind_dash
on_back r a Between b h = refl
on_back r a Opened b h = refl
on_back r a (Slash dashed low) b h = le-leb low (last_from low) (begun_from low (b - digit_zero) (on_if (is_digit b) (Number dashed low (b - digit_zero)) h).1)
on_back r a (Number dashed low v) b h = number_back dashed low v b h
on_back r a (Dash low) b h = (on_if (eqb b backslash) (Slash true low) h).1
on_back r a Closed b h = refl
on_back r a (Ending k) b h = refl
on_back r a Stuck b h = h

pub on_before : (s : State) (u : List ℕ) → goes_on (steps s u).spot ≡ true → goes_on s.spot ≡ true
unfolding steps
on_before s [] h = h
on_before s (b ∷ u) h = on_back s.line s.argument s.spot b (on_before (step s b) u h)

-- ---- onwards

-- a text that takes the machine to where it may end
abbrev Finish : State → Type 0
Finish s = (w : List ℕ) × (may_end (steps s w) ≡ true)

finish_line : (r a : ℕ) → r < production_limit → Finish (state r a Between)
finish_line r a h = (result_text (production_number r), rw (steps_result r a h) (lines_end (r + 1) (omega arith)))

-- once the class is closed and the space is there
finish_class : (r a : ℕ) (s : Spot) (w : List ℕ) → r < production_limit → steps (state r a s) w ≡ state r (a + 1) Between → Finish (state r a s)
finish_class r a s w h e =
    let (rest, ends) = finish_line r (a + 1) h in
    (w ++ rest, rw (steps_append (state r a s) w rest, e) ends)

module _ (r a : ℕ) where
  abbrev closing : List ℕ
  closing = bracket_close ∷ space ∷ []

  close_number : (dashed : Bool) (low n : ℕ) → allowed low n ≡ true → steps (state r a (Number dashed low n)) closing ≡ state r (a + 1) Between
  close_number dashed low n e = steps_close r a (Number dashed low n) (number_close r a dashed low n e)

  close_slash : (dashed : Bool) (low : ℕ) → low ≤ last_from low → steps (state r a (Slash dashed low)) (numeral low ++ closing) ≡ state r (a + 1) Between
  close_slash dashed low l =
      rw (steps_append (state r a (Slash dashed low)) (numeral low) closing, steps_numeral r a dashed low low) (close_number dashed low low (allowed_kind low low (le_refl low) l))

  -- the digits that are left of a number
  digit_more : (dashed : Bool) (low v d n : ℕ) (w : List ℕ) → 0 < v → d < 10 → v * 10 + d ≡ n → steps (state r a (Number dashed low v)) ((digit_zero + d) ∷ w) ≡ steps (state r a (Number dashed low n)) w
  digit_more dashed low v d n w some l e =
      steps_more r a (Number dashed low v) (digit_zero + d) w (state r a (Number dashed low n)) (next_digit r a dashed low v d some l ∙ ap (λ (k : ℕ). state r a (Number dashed low k)) e)

  close_begun : (dashed : Bool) (low v n : ℕ) → allowed low n ≡ true → Begins v n → (w : List ℕ) × (steps (state r a (Number dashed low v)) w ≡ state r (a + 1) Between)
  close_begun dashed low v n may (whole e) = (closing, close_number dashed low v (rw (← e) may))
  close_begun dashed low v n may (with_digit some e) =
      ((digit_zero + n % 10) ∷ closing, digit_more dashed low v (n % 10) n closing some (omega arith) (omega arith) ∙ close_number dashed low n may)
  close_begun dashed low v n may (with_two some e) = (
    (digit_zero + n / 10 % 10) ∷ (digit_zero + n % 10) ∷ closing,
    digit_more dashed low v (n / 10 % 10) (n / 10) ((digit_zero + n % 10) ∷ closing) some (omega arith) (omega arith)
        ∙ digit_more dashed low (n / 10) (n % 10) n closing (omega arith) (omega arith) (omega arith)
        ∙ close_number dashed low n may,
  )

pub finish : (r a : ℕ) (s : Spot) (rs : List Range) → Expected r a s rs → goes_on s ≡ true → Finish (state r a s)
unfolding Expected goes_on
finish r a Between rs x h =
    ⊎_elim
    (λ l. finish_line r a l)
    (λ e. by_cases (dec_lt 0 r) (λ l. ([], rw (steps_none (state r a Between)) (subst⁻¹ (λ (n : ℕ). may_end (state r n Between) ≡ true) e (lines_end r l)))) (λ m. finish_line r a (omega arith)))
    x.1
finish r a Opened rs x h = finish_class r a Opened (bracket_close ∷ space ∷ []) x.1.0 (steps_close r a Opened (opened_ready r a).1)
finish r a (Slash dashed low) rs x h = finish_class r a (Slash dashed low) (numeral low ++ bracket_close ∷ space ∷ []) x.1.0 (close_slash r a dashed low (leb-true low (last_from low) h))
finish r a (Number dashed low v) rs x h =
    let (n, may, begins) = begun_some low v h in
    let (w, closes) = close_begun r a dashed low v n may begins in
    finish_class r a (Number dashed low v) w x.1.0 closes
finish r a (Dash low) rs x h =
    let w = numeral low ++ bracket_close ∷ space ∷ [] in
    finish_class r a (Dash low) (backslash ∷ w) x.1.0
    (steps_more r a (Dash low) backslash w (state r a (Slash true low)) (dash_slash r a low) ∙ close_slash r a true low (leb-true low (last_from low) h))
finish r a Closed rs x h =
    finish_class r a Closed (space ∷ []) x.1.0
    (steps_more r a Closed space [] (state r (a + 1) Between) (closed_space r a) ∙ steps_none (state r (a + 1) Between))
finish r a (Ending k) rs x h =
    (drop k (result_text (production_number r)), rw (steps_ending r a x.1 (ending_length - suc k) k (omega (arith, x.2))) (lines_end (r + 1) (omega arith)))
finish r a Stuck rs x h = absurd x
