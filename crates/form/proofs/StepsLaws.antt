-- A text of the written form takes the machine to an end.
use Prim.Native.Nat.{ℕ, zero, suc, ◌+◌, ◌-◌, ◌*◌, ◌/◌, ◌%◌, ◌≤◌, ◌<◌}
use mathlib.Core.Bool.{Bool, false, true}
use mathlib.Core.List.{List, [], ◌∷◌, ◌++◌, append_assoc}
use mathlib.Core.Logic.{by_cases}
use mathlib.Core.Path.{◌≡◌, refl, ◌∙◌, ap}
use native.Mathlib.Decide.{dec_lt, ℕ_discrete}
use native.Mathlib.Nat.{le_refl, add-zero, zero-add}
use native.Mathlib.Omega.{arith}
use lib.ListN.{length, get_or, drop, drop_of_length-le}
use lib.Seq.{drop-cons}
use borrow.Author.Tests.{le-leb, lt-leb, eq-eqb, ne_eqb}
use Rattle.ccg.specs.Ccg.{Class, Line, no_line, no_class}
use Rattle.ccg.specs.Text.{dash, bracket_open, backslash, bracket_close, range_text, number_limit, class_text, arguments_text, result_text, line_text, grammar_text}
use Rattle.ccg.specs.Written.{OneKind}
use Rattle.charset.specs.Runs.{Range, runs}
use Rattle.common.proofs.BelowLaws.{between_in}
use Rattle.common.specs.Lists.{joined}
use Rattle.form.proofs.EndingLaws.{ending_long}
use Rattle.form.proofs.NumberLaws.{last_next, allowed_kind, allowed_own}
use Rattle.form.proofs.RangesLaws.{kind_rising}
use Rattle.form.specs.Form.{Writable}
use Rattle.form.specs.Read.{ranges_text, Rising}
use Rattle.form.specs.Step.{last_from, allowed, state, ending_length, ending_byte, behind_number, in_number, behind_open, behind_slash, behind_dash, in_line, behind_class, in_ending, step_at, step, start, steps, may_end, may_end_at}
use Rattle.form.specs.declared.Spot.{Spot}
use Rattle.form.specs.declared.Spot.TheVariants.{Between, Opened, Slash, Number, Dash, Closed, Ending}
use Rattle.form.specs.declared.State.{State}
use Rattle.layout.specs.Limits.{production_limit, argument_limit}
use Rattle.theory.specs.Tree.{production_number}
use Rattle.writing.proofs.NumeralLaws.{numeral_small, numeral_more}
use Rattle.writing.specs.Bytes.{space}
use Rattle.writing.specs.Digits.{digit_nine, is_digit}
use Rattle.writing.specs.Numeral.{digit_zero, numeral}

-- ---- one byte, and then others

pub steps_none : (s : State) → steps s [] ≡ s
unfolding steps
steps_none s = refl

pub steps_more : (r a : ℕ) (s : Spot) (b : ℕ) (u : List ℕ) (t : State) → step_at r a s b ≡ t → steps (state r a s) (b ∷ u) ≡ steps t u
unfolding steps
steps_more r a s b u t e = rw e refl

pub steps_append : (s : State) (u v : List ℕ) → steps s (u ++ v) ≡ steps (steps s u) v
unfolding steps
steps_append s [] v = refl
steps_append s (b ∷ u) v = steps_append (step_at s.line s.argument s.spot b) u v

pub steps_last : (s : State) (u : List ℕ) (b : ℕ) → steps s (u ++ (b ∷ [])) ≡ step (steps s u) b
unfolding steps
steps_last s u b = steps_append s u (b ∷ [])

-- ---- numerals

digit_test : (d : ℕ) → d < 10 → is_digit (digit_zero + d) ≡ true
unfolding is_digit
digit_test d h = between_in digit_zero digit_nine (digit_zero + d) (omega arith) (omega arith)

module _ (r a : ℕ) where
  first_digit : (dashed : Bool) (low d : ℕ) → d < 10 → step_at r a (Slash dashed low) (digit_zero + d) ≡ state r a (Number dashed low d)
  unfolding step_at behind_slash
  first_digit dashed low d h = let e : digit_zero + d - digit_zero ≡ d = omega arith in rw (digit_test d h, e) refl

  pub next_digit : (dashed : Bool) (low v d : ℕ) → 0 < v → d < 10 → step_at r a (Number dashed low v) (digit_zero + d) ≡ state r a (Number dashed low (v * 10 + d))
  unfolding step_at in_number
  next_digit dashed low v d some h =
      let e : digit_zero + d - digit_zero ≡ d = omega arith in
      rw (digit_test d h, ne_eqb v 0 (λ z. omega arith), e) refl

  steps_digits : (dashed : Bool) (low fuel n : ℕ) → n ≤ fuel → steps (state r a (Slash dashed low)) (numeral n) ≡ state r a (Number dashed low n)
  steps_digits dashed low zero n h =
      rw (numeral_small n (omega arith), steps_more r a (Slash dashed low) (digit_zero + n) [] (state r a (Number dashed low n)) (first_digit dashed low n (omega arith)))
      (steps_none (state r a (Number dashed low n)))
  steps_digits dashed low (suc fuel) n h =
      by_cases (dec_lt n 10)
      (λ l. rw (numeral_small n l, steps_more r a (Slash dashed low) (digit_zero + n) [] (state r a (Number dashed low n)) (first_digit dashed low n l))
      (steps_none (state r a (Number dashed low n))))
      (λ m. let e : n / 10 * 10 + n % 10 ≡ n = omega arith in
      let last = next_digit dashed low (n / 10) (n % 10) (omega arith) (omega arith) in
      rw (
        numeral_more n (omega arith),
        steps_append (state r a (Slash dashed low)) (numeral (n / 10)) ((digit_zero + n % 10) ∷ []),
        steps_digits dashed low fuel (n / 10) (omega arith),
        steps_more r a (Number dashed low (n / 10)) (digit_zero + n % 10) [] (state r a (Number dashed low n)) (last ∙ rw e refl),
      )
      (steps_none (state r a (Number dashed low n))))

  pub steps_numeral : (dashed : Bool) (low n : ℕ) → steps (state r a (Slash dashed low)) (numeral n) ≡ state r a (Number dashed low n)
  steps_numeral dashed low n = steps_digits dashed low n n (le_refl n)

  -- ---- ranges

  number_slash : (dashed : Bool) (low v : ℕ) → allowed low v ≡ true → step_at r a (Number dashed low v) backslash ≡ state r a (Slash false (v + 2))
  unfolding step_at in_number behind_number is_digit
  number_slash dashed low v e = rw e refl

  pub number_close : (dashed : Bool) (low v : ℕ) → allowed low v ≡ true → step_at r a (Number dashed low v) bracket_close ≡ state r a Closed
  unfolding step_at in_number behind_number is_digit
  number_close dashed low v e = rw e refl

  number_dash : (low v : ℕ) → allowed low v ≡ true → step_at r a (Number false low v) dash ≡ state r a (Dash (v + 1))
  unfolding step_at in_number behind_number is_digit
  number_dash low v e = rw e refl

  pub dash_slash : (low : ℕ) → step_at r a (Dash low) backslash ≡ state r a (Slash true low)
  unfolding step_at behind_dash
  dash_slash low = refl

  -- A spot where a range may follow, whose numbers are at least `low`, and where the class may end.
  abbrev Ready : Spot → ℕ → Type 0
  Ready s low = (step_at r a s backslash ≡ state r a (Slash false low)) × (step_at r a s bracket_close ≡ state r a Closed)

  pub opened_ready : Ready Opened 0
  unfolding step_at behind_open
  opened_ready = (refl, refl)

  number_ready : (dashed : Bool) (low v : ℕ) → allowed low v ≡ true → Ready (Number dashed low v) (v + 2)
  number_ready dashed low v e = (number_slash dashed low v e, number_close dashed low v e)

  -- the text brings a spot to one where another range may follow
  abbrev Reaches : Spot → List ℕ → ℕ → Type 0
  Reaches s text next = (t : Spot) × (steps (state r a s) text ≡ state r a t) × Ready t next

  one_range : (s : Spot) (low n : ℕ) → Ready s low → allowed low n ≡ true → Reaches s (backslash ∷ numeral n) (n + 2)
  one_range s low n ready e =
      (Number false low n, steps_more r a s backslash (numeral n) (state r a (Slash false low)) ready.0 ∙ steps_numeral false low n, number_ready false low n e)

  two_range : (s : Spot) (low l h : ℕ) → Ready s low → allowed low l ≡ true → l < h → h ≤ last_from l → Reaches s (backslash ∷ (numeral l ++ dash ∷ backslash ∷ numeral h)) (h + 2)
  two_range s low l h ready e less below =
      let may : allowed (l + 1) h ≡ true = allowed_kind (l + 1) h (omega arith) (omega (arith, last_next l 1 (omega arith) (allowed_own low l e))) in
      let high = dash ∷ backslash ∷ numeral h in (
        Number true (l + 1) h,
        rw (
          steps_more r a s backslash (numeral l ++ high) (state r a (Slash false low)) ready.0,
          steps_append (state r a (Slash false low)) (numeral l) high,
          steps_numeral false low l,
          steps_more r a (Number false low l) dash (backslash ∷ numeral h) (state r a (Dash (l + 1))) (number_dash low l e),
          steps_more r a (Dash (l + 1)) backslash (numeral h) (state r a (Slash true (l + 1))) (dash_slash (l + 1)),
        )
            (steps_numeral true (l + 1) h),
        number_ready true (l + 1) h may,
      )

  steps_range : (s : Spot) (low : ℕ) (x : Range) → Ready s low → allowed low x.low ≡ true → x.low ≤ x.high → x.high ≤ last_from x.low → Reaches s (range_text x) (x.high + 2)
  unfolding range_text
  steps_range s low x ready e l below =
      elim (ℕ_discrete x.low x.high) [
        | yes same ↦ rw (eq-eqb x.low x.high same, ← same) (one_range s low x.low ready e)
        | no other ↦ rw (ne_eqb x.low x.high other) (two_range s low x.low x.high ready e (omega arith) below)
      ]

  steps_ranges : (s : Spot) (low : ℕ) (rs : List Range) (next : ℕ) → Ready s low → Rising low rs next → Reaches s (ranges_text rs) next
  unfolding Rising joined
  steps_ranges s low [] next ready e = (s, steps_none (state r a s), rw (← e) ready)
  steps_ranges s low (x ∷ rs) next ready k =
      let (t, to, ready₂) = steps_range s low x ready k.0 k.1 k.2 in
      let (t₂, to₂, ready₃) = steps_ranges t (x.high + 2) rs next ready₂ k.3 in
      (t₂, steps_append (state r a s) (range_text x) (ranges_text rs) ∙ rw to to₂, ready₃)

  -- ---- classes

  pub closed_space : step_at r a Closed space ≡ state r (a + 1) Between
  unfolding step_at behind_class
  closed_space = refl

  -- a class that ends here, and the space behind it
  pub steps_close : (s : Spot) → step_at r a s bracket_close ≡ state r a Closed → steps (state r a s) (bracket_close ∷ space ∷ []) ≡ state r (a + 1) Between
  steps_close s e =
      steps_more r a s bracket_close (space ∷ []) (state r a Closed) e ∙ steps_more r a Closed space [] (state r (a + 1) Between) closed_space ∙ steps_none (state r (a + 1) Between)

  line_opens : r < production_limit → a < argument_limit → step_at r a Between bracket_open ≡ state r a Opened
  unfolding step_at in_line
  line_opens h k = rw (lt-leb production_limit r h, lt-leb argument_limit a k) refl

  steps_class : r < production_limit → a < argument_limit → (cc : Class) → OneKind cc → steps (state r a Between) (class_text cc ++ (space ∷ [])) ≡ state r (a + 1) Between
  unfolding class_text
  steps_class h k cc kind =
      let rs = runs cc 0 number_limit in
      let (next, rises) = kind_rising cc kind in
      let (t, to, ready) = steps_ranges Opened 0 rs next opened_ready rises in
      rw (
        append_assoc (ranges_text rs) (bracket_close ∷ []) (space ∷ []),
        steps_more r a Between bracket_open (ranges_text rs ++ bracket_close ∷ space ∷ []) (state r a Opened) (line_opens h k),
        steps_append (state r a Opened) (ranges_text rs) (bracket_close ∷ space ∷ []),
        to,
      )
      (steps_close t ready.1)

  -- ---- the end of a line

  ending_step : (k : ℕ) → k + 1 < ending_length → step_at r a (Ending k) (ending_byte r k) ≡ state r a (Ending (k + 1))
  unfolding step_at in_ending
  ending_step k h = rw (eq-eqb (ending_byte r k) (ending_byte r k) refl, ne_eqb (k + 1) ending_length (λ e. omega arith)) refl

  ending_last : (k : ℕ) → k + 1 ≡ ending_length → step_at r a (Ending k) (ending_byte r k) ≡ state (r + 1) 0 Between
  unfolding step_at in_ending
  ending_last k e = rw (eq-eqb (ending_byte r k) (ending_byte r k) refl, eq-eqb (k + 1) ending_length e) refl

  line_ends : r < production_limit → step_at r a Between dash ≡ state r a (Ending 1)
  unfolding step_at in_line
  line_ends h = rw (lt-leb production_limit r h) refl

  -- the bytes behind the first k, of which there are j
  pub steps_ending : r < production_limit → (j k : ℕ) → k + suc j ≡ ending_length → steps (state r a (Ending k)) (drop k (result_text (production_number r))) ≡ state (r + 1) 0 Between
  unfolding ending_byte
  steps_ending h zero k e =
      let text = result_text (production_number r) in
      let long = ending_long r h in
      let none : drop (suc k) text ≡ [] = drop_of_length-le text {i = suc k} (omega arith) in
      rw (drop-cons text k 0 (omega arith), none, steps_more r a (Ending k) (ending_byte r k) [] (state (r + 1) 0 Between) (ending_last k (omega arith))) (steps_none (state (r + 1) 0 Between))
  steps_ending h (suc j) k e =
      let text = result_text (production_number r) in
      let long = ending_long r h in
      let up : suc k ≡ k + 1 = omega arith in
      rw (drop-cons text k 0 (omega arith), steps_more r a (Ending k) (ending_byte r k) (drop (suc k) text) (state r a (Ending (k + 1))) (ending_step k (omega arith)), up)
      (steps_ending h j (k + 1) (omega arith))

  result_begins : result_text (production_number r) ≡ dash ∷ drop 1 (result_text (production_number r))
  unfolding result_text
  result_begins = refl

  pub steps_result : r < production_limit → steps (state r a Between) (result_text (production_number r)) ≡ state (r + 1) 0 Between
  steps_result h =
      ap (steps (state r a Between)) result_begins
      ∙ steps_more r a Between dash (drop 1 (result_text (production_number r))) (state r a (Ending 1)) (line_ends h)
      ∙ steps_ending h 8 1 refl

-- ---- lines

steps_arguments : (r a : ℕ) (ccs : List Class) → r < production_limit → a + length ccs ≤ argument_limit → ((i : ℕ) → i < length ccs → OneKind (get_or ccs i no_class))
    → steps (state r a Between) (arguments_text ccs) ≡ state r (a + length ccs) Between
unfolding arguments_text joined
steps_arguments r a [] h few kinds = rw (add-zero a) (steps_none (state r a Between))
steps_arguments r a (cc ∷ ccs) h few kinds =
    let e : a + 1 + length ccs ≡ a + suc (length ccs) = omega arith in
    rw (steps_append (state r a Between) (class_text cc ++ (space ∷ [])) (arguments_text ccs), steps_class r a h (omega arith) cc (kinds 0 (omega arith)), ← e)
    (steps_arguments r (a + 1) ccs h (omega arith) (λ i l. kinds (suc i) (omega arith)))

-- A line as the written form has it.
record GoodLine (r : ℕ) (l : Line) : Type 0 where
  result : l.result ≡ production_number r
  few : length l.arguments ≤ argument_limit
  kinds : (i : ℕ) → i < length l.arguments → OneKind (get_or l.arguments i no_class)

steps_line : (r : ℕ) (l : Line) → r < production_limit → GoodLine r l → steps (state r 0 Between) (line_text l) ≡ state (r + 1) 0 Between
unfolding line_text
steps_line r l h good =
    rw (
      good.result,
      steps_append (state r 0 Between) (arguments_text l.arguments) (result_text (production_number r)),
      steps_arguments r 0 l.arguments h (omega (arith, good.few)) good.kinds,
    )
    (steps_result r (0 + length l.arguments) h)

steps_lines : (r : ℕ) (g : List Line) → r + length g ≤ production_limit → ((p : ℕ) → p < length g → GoodLine (r + p) (get_or g p no_line))
    → steps (state r 0 Between) (grammar_text g) ≡ state (r + length g) 0 Between
unfolding grammar_text joined
steps_lines r [] few good = rw (add-zero r) (steps_none (state r 0 Between))
steps_lines r (l ∷ g) few good =
    let e : r + 1 + length g ≡ r + suc (length g) = omega arith in
    let first : GoodLine r l = rw (add-zero r) at (good 0 (omega arith)) in
    rw (steps_append (state r 0 Between) (line_text l) (grammar_text g), steps_line r l (omega arith) first, ← e)
    (steps_lines (r + 1) g (omega arith) (λ p h. let up : r + suc p ≡ r + 1 + p = omega arith in rw up at (good (suc p) (omega arith))))

-- ---- the whole text

pub writable_ends : (g : List Line) → Writable g → steps start (grammar_text g) ≡ state (length g) 0 Between
writable_ends g w =
    let all = steps_lines 0 g (omega (arith, w.few))
    (λ p l. let e : 0 + p ≡ p = zero-add p in rw e (record { result = w.form.numbered.own p l; few = w.few_arguments p l; kinds = λ i. w.form.classes p i l })) in
    all ∙ rw (zero-add (length g)) refl

pub lines_end : (r : ℕ) → 0 < r → may_end (state r 0 Between) ≡ true
unfolding may_end_at
lines_end r h = rw (le-leb 1 r h) refl
