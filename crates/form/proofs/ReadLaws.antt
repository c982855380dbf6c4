-- One byte more: what was read, and the state, say the bytes so far again.
use Prim.Native.Nat.{ℕ, suc, ◌+◌, ◌-◌, ◌*◌, ◌/◌, ◌%◌, ◌≤◌, ◌<◌}
use mathlib.Core.Bool.{Bool, false, true, cond, true≢false, false≢true}
use mathlib.Core.List.{List, [], ◌∷◌, ◌++◌, append_assoc, append-nil}
use mathlib.Core.Logic.{inl, inr, by_cases}
use mathlib.Core.Path.{◌≡◌, refl, sym, ◌∙◌, ap, subst, subst⁻¹}
use native.Mathlib.Decide.{dec_lt}
use native.Mathlib.Omega.{arith}
use lib.Dec.{leb, eqb}
use lib.ListN.{length, get_or, take, length-append, get_or-append}
use lib.Seq.{take-suc, take_all, get_or_at}
use borrow.Author.Tests.{eq-eqb, ne_eqb, eqb-true, leb-false}
use Rattle.ccg.specs.Ccg.{Class, Line, no_line, no_class}
use Rattle.ccg.specs.Text.{dash, bracket_open, backslash, bracket_close, range_text, class_text, arguments_text, result_text, line_text, grammar_text}
use Rattle.ccg.specs.Written.{OneKind}
use Rattle.charset.specs.Runs.{Range, covered}
use Rattle.common.proofs.BoolLaws.{or_first, or_second, true_or_false}
use Rattle.common.proofs.ListLaws.{joined_append, joined_one}
use Rattle.common.specs.Lists.{joined}
use Rattle.form.proofs.EndingLaws.{ending_long}
use Rattle.form.proofs.GoesLaws.{on_if, on_unless, on_before}
use Rattle.form.proofs.NumberLaws.{allowed_above, begun_small, not_zero}
use Rattle.form.proofs.StepLaws.{digit_value}
use Rattle.form.proofs.RangesLaws.{rising_to, rising_kind, rising_runs}
use Rattle.form.specs.Read.{Memory, memory, nothing, range_to, with_range, with_argument, with_line, ends_range, remember, ranges_text, dashed_text, open_text, complete_text, Rising, Awaits, Expected, GoodLines, Told}
use Rattle.form.specs.Step.{allowed, state, ending_length, ending_byte, behind_number, in_number, behind_open, behind_slash, behind_dash, in_line, behind_class, in_ending, step_at, step, start, steps, goes_on, SmallSpot, Small}
use Rattle.form.specs.declared.Spot.{Spot}
use Rattle.form.specs.declared.Spot.TheVariants.{Between, Opened, Slash, Number, Dash, Closed, Ending, Stuck}
use Rattle.form.specs.declared.State.{State}
use Rattle.layout.specs.Limits.{production_limit, argument_limit}
use Rattle.theory.specs.Tree.{production_number}
use Rattle.writing.proofs.NumeralLaws.{numeral_small, numeral_more}
use Rattle.writing.specs.Bytes.{space}
use Rattle.writing.specs.Digits.{is_digit}
use Rattle.writing.specs.Numeral.{digit_zero, numeral}

-- ---- texts with one byte more

-- one more behind a part of the text
part_more : (d p : List ℕ) (b : ℕ) → (d ++ p) ++ (b ∷ []) ≡ d ++ (p ++ (b ∷ []))
part_more d p b = append_assoc d p (b ∷ [])

digit_more : (v b : ℕ) → 0 < v → is_digit b ≡ true → numeral v ++ (b ∷ []) ≡ numeral (v * 10 + (b - digit_zero))
digit_more v b some e =
    let (low, small) = digit_value b e in
    let n = v * 10 + (b - digit_zero) in
    let tens : n / 10 ≡ v = omega arith in
    let ones : digit_zero + n % 10 ≡ b = omega arith in
    sym (rw (numeral_more n (omega arith), tens, ones) refl)

digit_first : (b : ℕ) → is_digit b ≡ true → b ∷ [] ≡ numeral (b - digit_zero)
digit_first b e =
    let (low, small) = digit_value b e in
    let back : digit_zero + (b - digit_zero) ≡ b = omega arith in
    sym (rw (numeral_small (b - digit_zero) small, back) refl)

-- the text of the range that a number ends
range_to_text : (dashed : Bool) (low v : ℕ) (rs : List Range) → Awaits dashed low rs → allowed low v ≡ true → range_text (range_to dashed low v) ≡ backslash ∷ (dashed_text dashed low ++ numeral v)
unfolding range_text range_to dashed_text Awaits
range_to_text false low v rs h may = rw (eq-eqb v v refl) refl
range_to_text true low v rs h may =
    let (l, next, rising, first, e) = h in
    rw (ne_eqb (low - 1) v (λ same. omega (arith, allowed_above low v may))) (sym (rw (append_assoc (numeral (low - 1)) (dash ∷ backslash ∷ []) (numeral v)) refl))

ranges_more : (rs : List Range) (x : Range) → ranges_text (rs ++ (x ∷ [])) ≡ ranges_text rs ++ range_text x
ranges_more rs x = joined_append range_text rs (x ∷ []) ∙ ap (λ (t : List ℕ). ranges_text rs ++ t) (joined_one range_text x)

class_of_ranges : (rs : List Range) (next : ℕ) → Rising 0 rs next → class_text (covered rs) ≡ bracket_open ∷ (ranges_text rs ++ (bracket_close ∷ []))
unfolding class_text
class_of_ranges rs next k = rw (rising_runs rs next k) refl

-- ---- one range, one argument, one line more

arguments_more : (ccs : List Class) (cc : Class) → arguments_text (ccs ++ (cc ∷ [])) ≡ arguments_text ccs ++ (class_text cc ++ (space ∷ []))
unfolding arguments_text
arguments_more ccs cc =
    let f : Class → List ℕ = λ c. class_text c ++ (space ∷ []) in
    joined_append f ccs (cc ∷ []) ∙ ap (λ (t : List ℕ). joined f ccs ++ t) (joined_one f cc)

lines_more : (g : List Line) (l : Line) → grammar_text (g ++ (l ∷ [])) ≡ grammar_text g ++ line_text l
unfolding grammar_text
lines_more g l = joined_append line_text g (l ∷ []) ∙ ap (λ (t : List ℕ). joined line_text g ++ t) (joined_one line_text l)

no_arguments : (t : List ℕ) → t ++ arguments_text [] ≡ t
unfolding arguments_text joined
no_arguments t = append-nil t

-- what an argument, or a line, adds to what is complete
argument_text : (m : Memory) (next : ℕ) → Rising 0 m.ranges next
    → (complete_text m ++ bracket_open ∷ (ranges_text m.ranges ++ (bracket_close ∷ []))) ++ (space ∷ []) ≡ complete_text (with_argument m) ++ []
argument_text m next rises =
    let g = grammar_text m.lines in
    let c = bracket_open ∷ (ranges_text m.ranges ++ (bracket_close ∷ [])) in
    append_assoc (g ++ arguments_text m.arguments) c (space ∷ []) ∙ append_assoc g (arguments_text m.arguments) (c ++ (space ∷ []))
    ∙ sym (append-nil (complete_text (with_argument m)) ∙ rw (arguments_more m.arguments (covered m.ranges), class_of_ranges m.ranges next rises) refl)

line_text_lem : (m : Memory) → complete_text m ++ result_text (production_number (length m.lines)) ≡ complete_text (with_line m) ++ []
unfolding line_text
line_text_lem m =
    let g = grammar_text m.lines in
    let end = result_text (production_number (length m.lines)) in
    append_assoc g (arguments_text m.arguments) end
    ∙ sym (append-nil (complete_text (with_line m)) ∙ no_arguments (grammar_text (with_line m).lines) ∙ lines_more m.lines (record { arguments = m.arguments; result = production_number (length m.lines) }))

-- what holds of each of a list and of one more
pub each_more : {A : Type 0} (P : ℕ → A → Type 0) (l : List A) (x d : A) → ((i : ℕ) → i < length l → P i (get_or l i d)) → P (length l) x
    → (i : ℕ) → i < length (l ++ (x ∷ [])) → P i (get_or (l ++ (x ∷ [])) i d)
each_more P l x d all here i h =
    by_cases (dec_lt i (length l))
    (λ k. rw (get_or-append l (x ∷ []) d i k) (all i k))
    (λ m. let e : length l ≡ i = omega (arith, length-append l (x ∷ [])) in rw (get_or_at l x [] d i e) (subst (λ (n : ℕ). P n x) e here))

good_more : (g : List Line) (ccs : List Class) → GoodLines g → length ccs ≤ argument_limit → ((i : ℕ) → i < length ccs → OneKind (get_or ccs i no_class))
    → GoodLines (g ++ (record { arguments = ccs; result = production_number (length g) } ∷ []))
good_more g ccs good few kinds =
    let l : Line = record { arguments = ccs; result = production_number (length g) } in
    record {
      few_arguments = each_more (λ (p : ℕ) (x : Line). length x.arguments ≤ argument_limit) g l no_line good.few_arguments few;
      form = record {
        numbered = record { own = each_more (λ (p : ℕ) (x : Line). x.result ≡ production_number p) g l no_line good.form.numbered.own refl };
        classes = λ p i h. each_more (λ (q : ℕ) (x : Line). (j : ℕ) → j < length x.arguments → OneKind (get_or x.arguments j no_class)) g l no_line (λ q k j. good.form.classes q j k) kinds p h i;
      };
    }

not_last : (k : ℕ) → k < ending_length → eqb (k + 1) ending_length ≡ false → k + 1 < ending_length
not_last k h e = by_cases (dec_lt (k + 1) ending_length) (λ l. l) (λ m. absurd (true≢false (sym (eq-eqb (k + 1) ending_length (omega arith)) ∙ e)))

-- ---- which bytes end a range

dash_ends_none : (b : ℕ) → b ≡ dash → ends_range b ≡ false
unfolding ends_range
dash_ends_none b e = rw e refl

slash_ends : (b : ℕ) → eqb b backslash ≡ true → ends_range b ≡ true
unfolding ends_range
slash_ends b e = or_first (eqb b backslash) (eqb b bracket_close) e

close_ends : (b : ℕ) → eqb b bracket_close ≡ true → ends_range b ≡ true
unfolding ends_range
close_ends b e = or_second (eqb b backslash) (eqb b bracket_close) e

digit_ends_none : (b : ℕ) → is_digit b ≡ true → ends_range b ≡ false
unfolding ends_range
digit_ends_none b e =
    let (low, small) = digit_value b e in
    rw (ne_eqb b backslash (λ is. omega arith), ne_eqb b bracket_close (λ is. omega arith)) refl

-- ---- one byte more

module _ (r a : ℕ) (m : Memory) (u : List ℕ) (b : ℕ) where
  abbrev behind : List ℕ
  behind = u ++ (b ∷ [])

  -- nothing complete but a range at most: the counts stay
  told_in : (s t : Spot) (rs : List Range) → Told (state r a s) m u → Expected r a t rs → open_text r s m.ranges ++ (b ∷ []) ≡ open_text r t rs
      → Told (state r a t) (memory m.lines m.arguments rs) behind
  told_in s t rs h x e =
      record {
        line = h.line;
        argument = h.argument;
        few_lines = h.few_lines;
        few_arguments = h.few_arguments;
        good_lines = h.good_lines;
        good_arguments = h.good_arguments;
        expected = x;
        text = ap (λ (w : List ℕ). w ++ (b ∷ [])) h.text ∙ part_more (complete_text m) (open_text r s m.ranges) b ∙ ap (λ (w : List ℕ). complete_text m ++ w) e;
      }

  told_between : Told (state r a Between) m u → goes_on (in_line r a b) ≡ true → Told (state r a (in_line r a b)) m behind
  unfolding in_line Expected open_text result_text joined
  told_between h on =
      let (room, on₂) = on_unless (leb production_limit r) (cond (eqb b dash) (Ending 1) (cond (leb argument_limit a) Stuck (cond (eqb b bracket_open) Opened Stuck))) on in
      let few : r < production_limit = leb-false production_limit r room in
      let none = h.expected.0 in
      elim (true_or_false (eqb b dash)) [
        | inl e ↦ rw (room, e) (told_in Between (Ending 1) m.ranges h (none, few, omega arith) (ap (λ (c : ℕ). c ∷ []) (eqb-true b dash e)))
        | inr e ↦ let (room₂, on₃) = on_unless (leb argument_limit a) (cond (eqb b bracket_open) Opened Stuck) (rw e at on₂) in
            let (opens, on₄) = on_if (eqb b bracket_open) Opened on₃ in
            rw (room, e, room₂, opens)
            (told_in Between Opened m.ranges h (none, (few, leb-false argument_limit a room₂)) (ap (λ (c : ℕ). c ∷ []) (eqb-true b bracket_open opens) ∙ sym (rw none refl)))
      ]

  told_opened : Told (state r a Opened) m u → goes_on (behind_open b) ≡ true → Told (state r a (behind_open b)) m behind
  unfolding behind_open Expected open_text Awaits Rising dashed_text
  told_opened h on =
      let (none, room) = h.expected in
      elim (true_or_false (eqb b backslash)) [
        | inl e ↦ rw e (told_in Opened (Slash false 0) m.ranges h (rw none refl, room) (rw (eqb-true b backslash e) refl))
        | inr e ↦ let (close, on₂) = on_if (eqb b bracket_close) Closed (rw e at on) in
            rw (e, close) (told_in Opened Closed m.ranges h ((0, rw none refl), room) (rw (eqb-true b bracket_close close) refl))
      ]

  told_slash : (dashed : Bool) (low : ℕ) → Told (state r a (Slash dashed low)) m u → goes_on (behind_slash dashed low b) ≡ true → Told (state r a (behind_slash dashed low b)) m behind
  unfolding behind_slash Expected open_text
  told_slash dashed low h on =
      let (digit, on₂) = on_if (is_digit b) (Number dashed low (b - digit_zero)) on in
      let rs = ranges_text m.ranges in
      let before = dashed_text dashed low in
      rw digit
      (told_in (Slash dashed low) (Number dashed low (b - digit_zero)) m.ranges h h.expected
      (ap (λ (w : List ℕ). bracket_open ∷ w) (append_assoc rs (backslash ∷ before) (b ∷ []) ∙ ap (λ (w : List ℕ). rs ++ backslash ∷ (before ++ w)) (digit_first b digit))))

  told_dash : (low : ℕ) → Told (state r a (Dash low)) m u → goes_on (behind_dash low b) ≡ true → Told (state r a (behind_dash low b)) m behind
  unfolding behind_dash Expected open_text dashed_text
  told_dash low h on =
      let (slash, on₂) = on_if (eqb b backslash) (Slash true low) on in
      let rs = ranges_text m.ranges in
      let text : open_text r (Dash low) m.ranges ++ (backslash ∷ []) ≡ open_text r (Slash true low) m.ranges =
      ap (λ (w : List ℕ). bracket_open ∷ w)
      (append_assoc rs (backslash ∷ (numeral (low - 1) ++ (dash ∷ []))) (backslash ∷ []) ∙ ap (λ (w : List ℕ). rs ++ backslash ∷ w) (append_assoc (numeral (low - 1)) (dash ∷ []) (backslash ∷ []))) in
      rw slash (told_in (Dash low) (Slash true low) m.ranges h h.expected (subst⁻¹ (λ (c : ℕ). open_text r (Dash low) m.ranges ++ (c ∷ []) ≡ open_text r (Slash true low) m.ranges) (eqb-true b backslash slash) text))

  -- a digit more
  told_digit : (dashed : Bool) (low v : ℕ) → Told (state r a (Number dashed low v)) m u → is_digit b ≡ true → 0 < v → Told (state r a (Number dashed low (v * 10 + (b - digit_zero)))) m behind
  unfolding Expected open_text
  told_digit dashed low v h digit some =
      let rs = ranges_text m.ranges in
      let before = dashed_text dashed low in
      told_in (Number dashed low v) (Number dashed low (v * 10 + (b - digit_zero))) m.ranges h h.expected
      (ap (λ (w : List ℕ). bracket_open ∷ w)
      (append_assoc rs (backslash ∷ (before ++ numeral v)) (b ∷ [])
      ∙ ap (λ (w : List ℕ). rs ++ backslash ∷ w) (append_assoc before (numeral v) (b ∷ []) ∙ ap (λ (w : List ℕ). before ++ w) (digit_more v b some digit))))

  -- a dash behind a first number
  told_dashed : (low v : ℕ) → Told (state r a (Number false low v)) m u → allowed low v ≡ true → b ≡ dash → Told (state r a (Dash (v + 1))) m behind
  unfolding Expected open_text Awaits dashed_text
  told_dashed low v h may e =
      let rs = ranges_text m.ranges in
      let back : v + 1 - 1 ≡ v = omega arith in
      told_in (Number false low v) (Dash (v + 1)) m.ranges h ((v, low, h.expected.0, may, refl), h.expected.1)
      (ap (λ (w : List ℕ). bracket_open ∷ w) (append_assoc rs (backslash ∷ numeral v) (b ∷ []) ∙ rw (e, back) refl))

  -- behind a complete range
  told_range : (dashed : Bool) (low v : ℕ) (t : Spot) → Told (state r a (Number dashed low v)) m u → allowed low v ≡ true
      → (Rising 0 (m.ranges ++ (range_to dashed low v ∷ [])) (v + 2) → Expected r a t (m.ranges ++ (range_to dashed low v ∷ [])))
      → ((rs : List Range) → open_text r t rs ≡ bracket_open ∷ (ranges_text rs ++ (b ∷ []))) → Told (state r a t) (with_range m (range_to dashed low v)) behind
  unfolding Expected open_text
  told_range dashed low v t h may x text =
      let rs = m.ranges in
      let to = range_to dashed low v in
      let written = ranges_more rs to ∙ ap (λ (w : List ℕ). ranges_text rs ++ w) (range_to_text dashed low v rs h.expected.0 may) in
      told_in (Number dashed low v) t (rs ++ (to ∷ [])) h (x (rising_to dashed low v rs h.expected.0 may))
      (sym (text (rs ++ (to ∷ [])) ∙ ap (λ (w : List ℕ). bracket_open ∷ (w ++ (b ∷ []))) written))

  slash_expected : (dashed : Bool) (low v : ℕ) (rs : List Range) → Expected r a (Number dashed low v) rs → (qs : List Range) → Rising 0 qs (v + 2) → Expected r a (Slash false (v + 2)) qs
  unfolding Expected Awaits
  slash_expected dashed low v rs x qs rises = (rises, x.1)

  closed_expected : (dashed : Bool) (low v : ℕ) (rs : List Range) → Expected r a (Number dashed low v) rs → (qs : List Range) → Rising 0 qs (v + 2) → Expected r a Closed qs
  unfolding Expected
  closed_expected dashed low v rs x qs rises = ((v + 2, rises), x.1)

  slash_text : (low : ℕ) (rs : List Range) → b ≡ backslash → open_text r (Slash false low) rs ≡ bracket_open ∷ (ranges_text rs ++ (b ∷ []))
  unfolding open_text dashed_text
  slash_text low rs e = rw e refl

  closed_text : (rs : List Range) → b ≡ bracket_close → open_text r Closed rs ≡ bracket_open ∷ (ranges_text rs ++ (b ∷ []))
  unfolding open_text
  closed_text rs e = rw e refl

  told_behind : (dashed : Bool) (low v : ℕ) → Told (state r a (Number dashed low v)) m u → allowed low v ≡ true → goes_on (behind_number dashed v b) ≡ true
      → Told (state r a (behind_number dashed v b)) (cond (ends_range b) (with_range m (range_to dashed low v)) m) behind
  unfolding behind_number
  told_behind dashed low v h may on =
      elim (true_or_false (eqb b dash)) [
        | inl e ↦ let (first, on₂) = on_unless dashed (Dash (v + 1)) (rw e at on) in
            let is = eqb-true b dash e in
            rw (e, first, dash_ends_none b is) (told_dashed low v (rw first at h) may is)
        | inr e ↦ elim (true_or_false (eqb b backslash)) [
          | inl f ↦ rw (e, f, slash_ends b f)
              (told_range dashed low v (Slash false (v + 2)) h may (slash_expected dashed low v m.ranges h.expected (m.ranges ++ (range_to dashed low v ∷ []))) (λ rs. slash_text (v + 2) rs (eqb-true b backslash f)))
          | inr f ↦ let (close, on₂) = on_if (eqb b bracket_close) Closed (rw (e, f) at on) in
              rw (e, f, close, close_ends b close)
              (told_range dashed low v Closed h may (closed_expected dashed low v m.ranges h.expected (m.ranges ++ (range_to dashed low v ∷ []))) (λ rs. closed_text rs (eqb-true b bracket_close close)))
        ]
      ]

  told_number : (dashed : Bool) (low v : ℕ) → Told (state r a (Number dashed low v)) m u → goes_on (in_number dashed low v b) ≡ true
      → Told (state r a (in_number dashed low v b)) (remember (Number dashed low v) m b) behind
  unfolding in_number remember
  told_number dashed low v h on =
      elim (true_or_false (is_digit b)) [
        | inl e ↦ let (some, on₂) = on_unless (eqb v 0) (Number dashed low (v * 10 + (b - digit_zero))) (rw e at on) in
            rw (e, some, digit_ends_none b e) (told_digit dashed low v h e (not_zero v some))
        | inr e ↦ let (may, on₂) = on_if (allowed low v) (behind_number dashed v b) (rw e at on) in
            rw (e, may) (told_behind dashed low v h may on₂)
      ]

  -- the space behind a class
  told_closed : Told (state r a Closed) m u → goes_on (behind_class r a b).spot ≡ true → Told (behind_class r a b) (with_argument m) behind
  unfolding behind_class Expected open_text goes_on
  told_closed h on =
      elim (true_or_false (eqb b space)) [
        | inl e ↦ rw e (argument_told (eqb-true b space e))
        | inr e ↦ absurd (false≢true (rw e at on))
      ]
    where
      argument_told : b ≡ space → Told (state r (a + 1) Between) (with_argument m) behind
      argument_told e =
          let ((next, rises), room) = h.expected in
          record {
            line = h.line;
            argument = omega (arith, h.argument, length-append m.arguments (covered m.ranges ∷ []));
            few_lines = h.few_lines;
            few_arguments = omega (arith, room.1);
            good_lines = h.good_lines;
            good_arguments = each_more (λ (i : ℕ) (cc : Class). OneKind cc) m.arguments (covered m.ranges) no_class h.good_arguments (rising_kind m.ranges next rises);
            expected = (refl, inl room.0);
            text = rw (h.text, e) (argument_text m next rises);
          }

  -- a byte of a line's end that is not its last
  ending_told : (k : ℕ) → Told (state r a (Ending k)) m u → b ≡ ending_byte r k → eqb (k + 1) ending_length ≡ false → Told (state r a (Ending (k + 1))) m behind
  unfolding Expected open_text ending_byte
  ending_told k h e other =
      let (none, few, short) = h.expected in
      let text = result_text (production_number r) in
      let up : suc k ≡ k + 1 = omega arith in
      let next : take k text ++ (b ∷ []) ≡ take (k + 1) text = rw (← up, take-suc text k 0 (omega (arith, ending_long r few)), e) refl in
      told_in (Ending k) (Ending (k + 1)) m.ranges h (none, few, not_last k short other) next

  line_told : (k : ℕ) → Told (state r a (Ending k)) m u → b ≡ ending_byte r k → k + 1 ≡ ending_length → Told (state (r + 1) 0 Between) (with_line m) behind
  unfolding Expected open_text ending_byte
  line_told k h e last =
      let (none, few, short) = h.expected in
      let text = result_text (production_number r) in
      let long = ending_long r few in
      let all : take k text ++ (b ∷ []) ≡ text = rw (e) (sym (take-suc text k 0 (omega arith)) ∙ take_all (suc k) text (omega arith)) in
      record {
        line = omega (arith, h.line, length-append m.lines (record { arguments = m.arguments; result = production_number (length m.lines) } ∷ []));
        argument = refl;
        few_lines = omega arith;
        few_arguments = omega arith;
        good_lines = good_more m.lines m.arguments h.good_lines (omega (arith, h.argument, h.few_arguments)) h.good_arguments;
        good_arguments = λ i l. absurd (omega arith);
        expected = (refl, inr refl);
        text = rw (h.text, part_more (complete_text m) (take k text) b, all, h.line) (line_text_lem m);
      }

  -- a byte of a line's end
  told_ending : (k : ℕ) → Told (state r a (Ending k)) m u → goes_on (in_ending r a k b).spot ≡ true → Told (in_ending r a k b) (remember (Ending k) m b) behind
  unfolding in_ending remember goes_on Expected
  told_ending k h on =
      elim (true_or_false (eqb b (ending_byte r k))) [
        | inl e ↦ elim (true_or_false (eqb (k + 1) ending_length)) [
          | inl f ↦ rw (e, f) (line_told k h (eqb-true b (ending_byte r k) e) (eqb-true (k + 1) ending_length f))
          | inr f ↦ rw (e, f) (ending_told k h (eqb-true b (ending_byte r k) e) f)
        ]
        | inr e ↦ absurd (false≢true (rw e at on))
      ]

-- A byte behind which a text goes on: what is complete, and the new state, say the bytes so far.
told_at : (r a : ℕ) (s : Spot) (m : Memory) (u : List ℕ) (b : ℕ) → Told (state r a s) m u → goes_on (step_at r a s b).spot ≡ true → Told (step_at r a s b) (remember s m b) (u ++ (b ∷ []))
unfolding step_at remember goes_on
told_at r a Between m u b h on = told_between r a m u b h on
told_at r a Opened m u b h on = told_opened r a m u b h on
told_at r a (Slash dashed low) m u b h on = told_slash r a m u b dashed low h on
told_at r a (Number dashed low v) m u b h on = told_number r a m u b dashed low v h on
told_at r a (Dash low) m u b h on = told_dash r a m u b low h on
told_at r a Closed m u b h on = told_closed r a m u b h on
told_at r a (Ending k) m u b h on = told_ending r a m u b k h on
told_at r a Stuck m u b h on = absurd (false≢true on)

pub told_step : (s : State) (m : Memory) (u : List ℕ) (b : ℕ) → Told s m u → goes_on (step s b).spot ≡ true → Told (step s b) (remember s.spot m b) (u ++ (b ∷ []))
told_step s m u b h on = told_at s.line s.argument s.spot m u b h on

pub told_nothing : Told start nothing []
unfolding Expected open_text arguments_text grammar_text joined
told_nothing =
    record {
      line = refl;
      argument = refl;
      few_lines = omega arith;
      few_arguments = omega arith;
      good_lines = record { few_arguments = λ p l. absurd (omega arith); form = record { numbered = record { own = λ p l. absurd (omega arith) }; classes = λ p i l. absurd (omega arith) } };
      good_arguments = λ i l. absurd (omega arith);
      expected = (refl, inr refl);
      text = refl;
    }

told_from : (s : State) (m : Memory) (v u : List ℕ) → Told s m v → goes_on (steps s u).spot ≡ true → (n : Memory) × Told (steps s u) n (v ++ u)
unfolding steps
told_from s m v [] h on = (m, rw (append-nil v) h)
told_from s m v (b ∷ u) h on =
    rw (← (append_assoc v (b ∷ []) u)) (told_from (step s b) (remember s.spot m b) (v ++ (b ∷ [])) u (told_step s m v b h (on_before (step s b) u on)) on)

-- ---- what code has to know

-- a range ends only behind a number that is allowed
pub range_ends : (dashed : Bool) (low v b : ℕ) → ends_range b ≡ true → goes_on (in_number dashed low v b) ≡ true → allowed low v ≡ true
unfolding in_number
range_ends dashed low v b ends on =
    elim (true_or_false (is_digit b)) [
      | inl e ↦ absurd (true≢false (sym ends ∙ digit_ends_none b e))
      | inr e ↦ (on_if (allowed low v) (behind_number dashed v b) (rw e at on)).0
    ]

small_spot : (r a : ℕ) (s : Spot) (rs : List Range) → Expected r a s rs → goes_on s ≡ true → SmallSpot r s
unfolding Expected goes_on SmallSpot
small_spot r a Between rs x on = tt
small_spot r a Opened rs x on = tt
small_spot r a (Slash dashed low) rs x on = tt
small_spot r a (Number dashed low v) rs x on = begun_small low v on
small_spot r a (Dash low) rs x on = tt
small_spot r a Closed rs x on = tt
small_spot r a (Ending k) rs x on = (x.1, x.2)
small_spot r a Stuck rs x on = tt

pub small_told : (s : State) (m : Memory) (u : List ℕ) → Told s m u → goes_on s.spot ≡ true → Small s
small_told s m u h on = record { line = h.few_lines; argument = h.few_arguments; spot = small_spot s.line s.argument s.spot m.ranges h.expected on }

-- ---- all bytes

-- All bytes of a text behind which one goes on.
pub told_steps : (u : List ℕ) → goes_on (steps start u).spot ≡ true → (m : Memory) × Told (steps start u) m u
told_steps u on = told_from start nothing [] u told_nothing on
