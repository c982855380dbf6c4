-- The corners, computed: how far the machine goes, and that it is not where a text may end.
use Prim.Native.Nat.{ℕ, suc}
use mathlib.Core.Bool.{Bool, true, not, ◌&&◌, ◌||◌}
use mathlib.Core.List.{List, [], ◌∷◌, ◌++◌}
use mathlib.Core.Logic.{⊎_elim}
use mathlib.Core.Path.{◌≡◌, refl, ◌∙◌, subst⁻¹}
use native.Mathlib.Omega.{arith}
use borrow.Author.Tests.{ltb-true, eqb-true, not-true}
use lib.Dec.{ltb, eqb}
use lib.ListN.{length, take, length-append}
use lib.Seq.{take_at, take-suc, get_or_at}
use Rattle.ccg.specs.Ccg.{Line}
use Rattle.ccg.specs.Text.{range_text, class_text, result_text, grammar_text}
use Rattle.charset.specs.Runs.{with_number, runs}
use Rattle.common.specs.Lists.{joined, All}
use Rattle.common.proofs.BoolLaws.{and_first_true, and_second_true, or_cases}
use Rattle.form.proofs.FormLaws.{stops_at, stops_short}
use Rattle.form.proofs.StepsLaws.{steps_last, writable_ends}
use Rattle.form.specs.Corners.{Corner, corner, StopsThere, corners}
use Rattle.form.specs.Form.{Writable, NotInForm}
use Rattle.form.specs.Step.{last_from, allowed, meets, begins, begun, ending_byte, behind_number, in_number, behind_open, behind_slash, behind_dash, in_line, behind_class, in_ending, step_at, start, steps, goes_on, may_end, may_end_at}
use Rattle.layout.specs.Limits.{production_limit}
use Rattle.writing.specs.Digits.{is_digit}
use Rattle.writing.specs.Numeral.{decimal, numeral}

-- what the machine says: no text goes on behind the next byte, or the text is cut short
stops_before : Corner → Bool
stops_before c =
    ltb c.place (length c.text)
    && (goes_on (steps start (take c.place c.text)).spot && not (goes_on (steps start (take (suc c.place) c.text)).spot))

ends_short : Corner → Bool
ends_short c = eqb c.place (length c.text) && (goes_on (steps start c.text).spot && not (may_end (steps start c.text)))

stops_before_lem : (c : Corner) → stops_before c ≡ true → StopsThere c
unfolding stops_before
stops_before_lem c e =
    let here = ltb c.place (length c.text) in
    let on = goes_on (steps start (take c.place c.text)).spot in
    let next = goes_on (steps start (take (suc c.place) c.text)).spot in
    let m = and_second_true here (on && not next) e in
    stops_at c.text c.place (ltb-true c.place (length c.text) (and_first_true here (on && not next) e)) (and_first_true on (not next) m) (not-true next (and_second_true on (not next) m))

ends_short_lem : (c : Corner) → ends_short c ≡ true → StopsThere c
unfolding ends_short
ends_short_lem c e =
    let here = eqb c.place (length c.text) in
    let on = goes_on (steps start c.text).spot in
    let whole = may_end (steps start c.text) in
    let m = and_second_true here (on && not whole) e in
    subst⁻¹ (λ (k : ℕ). NotInForm c.text k) (eqb-true c.place (length c.text) (and_first_true here (on && not whole) e))
    (stops_short c.text (and_first_true on (not whole) m) (not-true whole (and_second_true on (not whole) m)))

tests : List Corner → Bool
tests [] = true
tests (c ∷ cs) = (stops_before c || ends_short c) && tests cs

tests_true : (cs : List Corner) → tests cs ≡ true → All StopsThere cs
unfolding tests
tests_true [] e = tt
tests_true (c ∷ cs) e =
    let stops = stops_before c || ends_short c in
    (⊎_elim (stops_before_lem c) (ends_short_lem c) (or_cases (stops_before c) (ends_short c) (and_first_true stops (tests cs) e)), tests_true cs (and_second_true stops (tests cs) e))

-- the table, computed
pub all_corners : All StopsThere corners
unfolding tests stops_before ends_short steps step_at goes_on may_end_at in_line behind_open behind_slash in_number behind_number behind_dash behind_class in_ending ending_byte result_text class_text range_text joined runs with_number numeral decimal is_digit last_from allowed begun begins meets
all_corners = tests_true corners refl

-- a text with all the lines that there may be stops at the first byte behind them, whatever it is
pub full_stops : (g : List Line) → Writable g → length g ≡ production_limit → (b : ℕ) (rest : List ℕ) → StopsThere (corner (grammar_text g ++ (b ∷ rest)) (length (grammar_text g)))
unfolding goes_on step_at in_line
full_stops g w full b rest =
    let text = grammar_text g in
    let all : take (length text) (text ++ (b ∷ rest)) ≡ text = take_at text (b ∷ rest) (length text) refl in
    let more : take (suc (length text)) (text ++ (b ∷ rest)) ≡ text ++ (b ∷ []) =
    take-suc (text ++ (b ∷ rest)) (length text) 0 (omega (arith, length-append text (b ∷ rest))) ∙ rw (all, get_or_at text b rest 0 (length text) refl) refl in
    stops_at (text ++ (b ∷ rest)) (length text) (omega (arith, length-append text (b ∷ rest)))
    (rw (all, writable_ends g w) refl)
    (rw (more, steps_last start text b, writable_ends g w, full) refl)
