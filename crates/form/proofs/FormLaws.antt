-- The machine stops exactly where no text of the written form goes on, and may end exactly behind such a text.
use Prim.Native.Nat.{ℕ, suc, ◌+◌, ◌-◌, ◌≤◌, ◌<◌}
use mathlib.Core.Bool.{false, true, true≢false, false≢true}
use mathlib.Core.List.{List, [], ◌∷◌, ◌++◌, append-nil}
use mathlib.Core.Logic.{by_cases}
use mathlib.Core.Path.{◌≡◌, refl, sym, ◌∙◌, ap, subst}
use native.Mathlib.Decide.{dec_lt}
use native.Mathlib.Nat.{le_refl}
use native.Mathlib.Omega.{arith}
use lib.Dec.{leb, eqb}
use lib.ListN.{length, take, drop}
use lib.Seq.{take_all, take-add}
use borrow.Author.Tests.{leb-true, eqb-true}
use Rattle.ccg.proofs.WrittenLaws.{text_determines}
use Rattle.ccg.specs.Ccg.{Line}
use Rattle.ccg.specs.Text.{arguments_text, grammar_text}
use Rattle.common.proofs.BoolLaws.{and_first_true, and_second_true}
use Rattle.common.specs.Lists.{joined}
use Rattle.form.proofs.GoesLaws.{on_before, finish}
use Rattle.form.proofs.ReadLaws.{told_steps}
use Rattle.form.proofs.StepsLaws.{steps_append, writable_ends, lines_end}
use Rattle.form.specs.Form.{Says, InForm, Viable, LongestViable, NotInForm}
use Rattle.form.specs.Read.{Memory, complete_text, open_text, Told}
use Rattle.form.specs.Step.{start, steps, goes_on, may_end, may_end_at}
use Rattle.form.specs.declared.Spot.{Spot}
use Rattle.form.specs.declared.Spot.TheVariants.{Between, Opened, Slash, Number, Dash, Closed, Ending, Stuck}
use Rattle.form.specs.declared.State.{State}

-- ---- where the machine may end

-- behind a line, with no argument of another
end_at : (r a : ℕ) (s : Spot) → may_end_at r a s ≡ true → (1 ≤ r) × (a ≡ 0) × (s ≡ Between)
unfolding may_end_at
end_at r a Between e = (leb-true 1 r (and_first_true (leb 1 r) (eqb a 0) e), eqb-true a 0 (and_second_true (leb 1 r) (eqb a 0) e), refl)
end_at r a Opened e = absurd (false≢true e)
end_at r a (Slash dashed low) e = absurd (false≢true e)
end_at r a (Number dashed low v) e = absurd (false≢true e)
end_at r a (Dash low) e = absurd (false≢true e)
end_at r a Closed e = absurd (false≢true e)
end_at r a (Ending k) e = absurd (false≢true e)
end_at r a Stuck e = absurd (false≢true e)

end_on : (s : State) → may_end s ≡ true → goes_on s.spot ≡ true
unfolding goes_on
end_on s e = rw (end_at s.line s.argument s.spot e).2 refl

no_elements : {A : Type 0} (l : List A) → length l ≡ 0 → l ≡ []
no_elements [] e = refl
no_elements (a ∷ l) e = absurd (omega arith)

complete_lines : (m : Memory) → m.arguments ≡ [] → complete_text m ++ open_text 0 Between [] ≡ grammar_text m.lines
unfolding open_text arguments_text joined
complete_lines m none = rw (append-nil (complete_text m), none) (append-nil (grammar_text m.lines))

open_none : (r : ℕ) (s : Spot) (m : Memory) → s ≡ Between → open_text r s m.ranges ≡ open_text 0 Between []
unfolding open_text
open_none r s m e = rw e refl

-- what was read there is a grammar, and the text says it
pub end_says : (s : State) (m : Memory) (u : List ℕ) → Told s m u → may_end s ≡ true → Says u m.lines
end_says s m u h e =
    let (some, none, spot) = end_at s.line s.argument s.spot e in
    record {
      writable = record { some = omega (arith, h.line); few = omega (arith, h.line, h.few_lines); few_arguments = h.good_lines.few_arguments; form = h.good_lines.form };
      is_text = h.text ∙ ap (λ (w : List ℕ). complete_text m ++ w) (open_none s.line s.spot m spot) ∙ complete_lines m (no_elements m.arguments (sym h.argument ∙ none));
    }

-- a text of the form takes the machine there
pub form_ends : (u : List ℕ) → InForm u → may_end (steps start u) ≡ true
form_ends u (g, says) = rw (says.is_text, writable_ends g says.writable) (lines_end (length g) (omega (arith, says.writable.some)))

-- and no other text does
pub ends_form : (u : List ℕ) → may_end (steps start u) ≡ true → InForm u
ends_form u e = let (m, told) = told_steps u (end_on (steps start u) e) in (m.lines, end_says (steps start u) m u told e)

-- ---- where a text goes on

pub viable_on : (u : List ℕ) → Viable u → goes_on (steps start u).spot ≡ true
viable_on u (rest, form) =
    on_before (steps start u) rest (subst (λ (s : State). goes_on s.spot ≡ true) (steps_append start u rest) (end_on (steps start (u ++ rest)) (form_ends (u ++ rest) form)))

pub on_viable : (u : List ℕ) → goes_on (steps start u).spot ≡ true → Viable u
on_viable u on =
    let s = steps start u in
    let (m, told) = told_steps u on in
    let (rest, ends) = finish s.line s.argument s.spot m.ranges told.expected on in
    (rest, ends_form (u ++ rest) (rw (steps_append start u rest) ends))

-- ---- the place of refusal 27

-- a longer beginning takes the machine through the shorter one
steps_take : (t : List ℕ) (n k : ℕ) → n ≤ k → goes_on (steps start (take k t)).spot ≡ true → goes_on (steps start (take n t)).spot ≡ true
steps_take t n k l on =
    let (j, e) = further n k l in
    on_before (steps start (take n t)) (take j (drop n t)) (rw (← (steps_append start (take n t) (take j (drop n t))), ← (take-add n j t), ← e) on)
  where
    further : (n k : ℕ) → n ≤ k → (j : ℕ) × (k ≡ n + j)
    further n k l = (k - n, omega arith)

-- the byte behind which no text goes on
longest_at : (t : List ℕ) (k : ℕ) → k < length t → goes_on (steps start (take k t)).spot ≡ true → goes_on (steps start (take (suc k) t)).spot ≡ false → LongestViable t k
longest_at t k l on off =
    record {
      within = omega arith;
      viable = on_viable (take k t) on;
      longest = λ n h v. by_cases (dec_lt k n) (λ less. absurd (true≢false (sym (steps_take t (suc k) n less (viable_on (take n t) v)) ∙ off))) (λ m. omega arith);
    }

-- a text that goes on to its end
longest_all : (t : List ℕ) → goes_on (steps start t).spot ≡ true → LongestViable t (length t)
longest_all t on =
    record {
      within = le_refl (length t);
      viable = rw (take_all (length t) t (le_refl (length t))) (on_viable t on);
      longest = λ n h v. h;
    }

-- a text that stops, or that may not end, is not of the form
off_form : (t : List ℕ) (k : ℕ) → k ≤ length t → goes_on (steps start (take k t)).spot ≡ false → InForm t → ⊥
off_form t k l off form =
    let whole = take_all (length t) t (le_refl (length t)) in
    true≢false (sym (steps_take t k (length t) l (rw whole (end_on (steps start t) (form_ends t form)))) ∙ off)

open_form : (t : List ℕ) → may_end (steps start t) ≡ false → InForm t → ⊥
open_form t e form = true≢false (sym (form_ends t form) ∙ e)

-- so 27 has its place where no text goes on behind the next byte
pub stops_at : (t : List ℕ) (k : ℕ) → k < length t → goes_on (steps start (take k t)).spot ≡ true → goes_on (steps start (take (suc k) t)).spot ≡ false → NotInForm t k
stops_at t k l on off = record { outside = off_form t (suc k) l off; longest = longest_at t k l on off }

-- and at the end of a text that is cut short
pub stops_short : (t : List ℕ) → goes_on (steps start t).spot ≡ true → may_end (steps start t) ≡ false → NotInForm t (length t)
stops_short t on unfinished = record { outside = open_form t unfinished; longest = longest_all t on }

-- two such places are one
pub longest_unique : (t : List ℕ) (k n : ℕ) → LongestViable t k → LongestViable t n → k ≡ n
longest_unique t k n a b = omega (arith, a.longest n b.within b.viable, b.longest k a.within a.viable)

-- ---- a text says one grammar

pub says_unique : (text : List ℕ) (g h : List Line) → Says text g → Says text h → g ≡ h
says_unique text g h a b = text_determines g h a.writable.form b.writable.form (sym a.is_text ∙ b.is_text)
