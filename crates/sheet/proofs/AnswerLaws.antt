-- What an outcome of a sheet, and of a step, says: refusals exactly under their conditions, and otherwise the lines.
use Prim.Native.Nat.{ℕ, ◌≤◌, ◌<◌}
use mathlib.Core.Path.{◌≡◌, refl, sym, ◌∙◌, ap, ap₂, subst, subst⁻¹}
use mathlib.Core.Bool.{Bool, true, false}
use mathlib.Core.List.{List, ◌∷◌}
use mathlib.Core.Logic.{◌↔◌, ◌⊎◌, inl, inr, ⊎_elim}
use native.Mathlib.Omega.{arith}
use lib.Dec.{ltb}
use lib.ListN.{length, take, drop}
use lib.Seq.{take-append_seam, drop-append_seam}
use borrow.Author.Tests.{ltb-true, ltb-false}
use Rattle.refusal.specs.Verdict.{Verdict, accepted, refused, refusal}
use Rattle.priority.specs.Check.{checked}
use Rattle.sheet.proofs.InTurnLaws.{turn_length}
use Rattle.split.proofs.LinesLaws.{next_later, next_within, lines_at}
use Rattle.sheet.proofs.RefusalLaws.{refusal_grammar, refusal_long, refusal_number, refusal_none, sheet_refusal_first, sheet_refusal_few, sheet_refusal_number}
use Rattle.split.specs.Lines.{lines, line_at, next_start}
use Rattle.sheet.specs.Outcome.{LineBy, InTurn, Summed, SheetIf, SheetOutcome, StepFrom, StepIf, StepOutcome, Step}
use Rattle.sheet.specs.Refusals.{sheet_limit, step_refusal, sheet_refusal}
use Rattle.std.specs.Prelude.{Some, None, Result, Ok, Err, Option, ⊤}
use Rattle.refusal.specs.declared.Fault.TheVariants.{LongSheet, ShortSummary}
use Rattle.refusal.specs.declared.Refusal.{Refusal}
use Rattle.refusal.specs.Fault.{number_of}
use Rattle.refusal.proofs.VerdictLaws.{same_refusal}

-- ---- the sheet

module _ (b s c₀ m₀ : List ℕ) (r : Result ℕ Refusal) (c m : List ℕ) (o : SheetOutcome b s c₀ m₀ r c m) where
  -- a refusal is the answer, and nothing is changed
  by_refusal : (x : Refusal) → sheet_refusal b s m₀ ≡ Err x → (r ≡ Err x) × (c ≡ c₀) × (m ≡ m₀)
  unfolding SheetOutcome SheetIf
  by_refusal x e = subst (λ (v : Verdict). SheetIf v b s c₀ m₀ r c m) e o

  by_lines : sheet_refusal b s m₀ ≡ accepted → (r ≡ Ok (length (lines s))) × Summed (LineBy b) s c₀ m₀ c m
  unfolding SheetOutcome SheetIf
  by_lines e = subst (λ (v : Verdict). SheetIf v b s c₀ m₀ r c m) e o

  by_verdict : (sheet_refusal b s m₀ ≡ accepted) ⊎ ((x : Refusal) × (sheet_refusal b s m₀ ≡ Err x))
  by_verdict = cases (sheet_refusal b s m₀) refl
    where
      cases : (v : Verdict) → sheet_refusal b s m₀ ≡ v → (sheet_refusal b s m₀ ≡ accepted) ⊎ ((x : Refusal) × (sheet_refusal b s m₀ ≡ Err x))
      cases (Ok _) e = inl e
      cases (Err x) e = inr (x, e)

  -- A refusal is that of the verdict before any line is read.
  pub sheet_refused_exactly : (x : Refusal) → (r ≡ Err x) ↔ (sheet_refusal b s m₀ ≡ Err x)
  sheet_refused_exactly x = (
    (λ e. ⊎_elim (λ a. written_not e (by_lines a).0) (λ (y, v). v ∙ same (sym (by_refusal y v).0 ∙ e)) by_verdict),
    (λ h. (by_refusal x h).0),
  )
    where
      written_not : {A : Type 0} {count : ℕ} → r ≡ Err x → r ≡ Ok count → A
      written_not e h = let z : ◌≡◌ {A = ℕ} 0 1 = cc in absurd (omega arith)

      same : {y : Refusal} → ◌≡◌ {A = Result ℕ Refusal} (Err y) (Err x) → ◌≡◌ {A = Verdict} (Err y) (Err x)
      same e = ap (λ (z : Refusal). Err z) (same_refusal {B = ℕ} e)

  pub sheet_unchanged : (x : Refusal) → r ≡ Err x → (c ≡ c₀) × (m ≡ m₀)
  sheet_unchanged x e = let a = by_refusal x ((sheet_refused_exactly x).0 e) in (a.1, a.2)

  -- Without one the lines are read, and their count comes back.
  pub sheet_read_exactly : (n : ℕ) → (r ≡ Ok n) ↔ ((sheet_refusal b s m₀ ≡ accepted) × (n ≡ length (lines s)))
  sheet_read_exactly n = (
    (λ e. ⊎_elim (λ a. (a, same_count (sym e ∙ (by_lines a).0))) (λ (y, v). written_not e (by_refusal y v).0) by_verdict),
    (λ (a, count). (by_lines a).0 ∙ ap (λ (k : ℕ). Ok k) (sym count)),
  )
    where
      written_not : {A : Type 0} {y : Refusal} → r ≡ Ok n → r ≡ Err y → A
      written_not e h = let z : ◌≡◌ {A = ℕ} 0 1 = cc in absurd (omega arith)

      same_count : {k : ℕ} → ◌≡◌ {A = Result ℕ Refusal} (Ok n) (Ok k) → n ≡ k
      same_count e = cc

  pub sheet_summed : (n : ℕ) → r ≡ Ok n → Summed (LineBy b) s c₀ m₀ c m
  sheet_summed n e = (by_lines ((sheet_read_exactly n).0 e).0).1

  -- 1 to 9: the grammar's.
  pub sheet_grammar : (x : Refusal) → number_of x.fault ≤ 9 → (r ≡ Err x) ↔ (checked b ≡ Err x)
  sheet_grammar x small =
      let answer = sheet_refused_exactly x in
      let step = sheet_refusal_first b s m₀ x (omega arith) in
      let line = refusal_grammar b s x small in
      ((λ e. line.0 (step.0 (answer.0 e))), (λ h. answer.1 (step.1 (line.1 h))))

  -- 25: the sheet is over its limit; the place is its length.
  pub sheet_too_long_lem : (k : ℕ) → (r ≡ refused LongSheet k) ↔ ((checked b ≡ accepted) × (sheet_limit < length s) × (k ≡ length s))
  sheet_too_long_lem k =
      let answer = sheet_refused_exactly (refusal LongSheet k) in
      let step = sheet_refusal_first b s m₀ (refusal LongSheet k) (omega arith) in
      let line = refusal_long b s k in
      ((λ e. line.0 (step.0 (answer.0 e))), (λ h. answer.1 (step.1 (line.1 h))))

  -- 26: the summary is too short; the place is how many lines there are.
  pub summary_too_short_lem : (k : ℕ) → (r ≡ refused ShortSummary k) ↔ (((checked b ≡ accepted) × (length s ≤ sheet_limit)) × (length m₀ < length (lines s)) × (k ≡ length (lines s)))
  summary_too_short_lem k =
      let answer = sheet_refused_exactly (refusal ShortSummary k) in
      let line = sheet_refusal_few b s m₀ k in
      let none = refusal_none b s in
      ((λ e. let (a, few, place) = line.0 (answer.0 e) in (none.0 a, few, place)), (λ (a, few, place). answer.1 (line.1 (none.1 a, few, place))))

  -- There is no other number.
  pub sheet_numbers : (x : Refusal) → r ≡ Err x → (number_of x.fault ≤ 9) ⊎ ((number_of x.fault ≡ 25) ⊎ (number_of x.fault ≡ 26))
  sheet_numbers x e = sheet_refusal_number b s m₀ ((sheet_refused_exactly x).0 e)

  -- The bytes written are those of the lines in turn, and beyond them the summary is what it was.
  front : (n : ℕ) → r ≡ Ok n → (u : Summed (LineBy b) s c₀ m₀ c m) × (n ≡ length u.bytes)
  front n e = let u = sheet_summed n e in (u, ((sheet_read_exactly n).0 e).1 ∙ sym (turn_length (LineBy b) (lines s) c₀ u.bytes c u.in_turn))

  pub sheet_in_turn : (n : ℕ) → r ≡ Ok n → InTurn (LineBy b) (lines s) c₀ (take n m) c
  sheet_in_turn n e =
      let (u, count) = front n e in
      let bytes : take n m ≡ u.bytes = ap₂ (λ (k : ℕ) (l : List ℕ). take k l) count u.written ∙ take-append_seam u.bytes (drop (length u.bytes) m₀) in
      subst⁻¹ (λ (l : List ℕ). InTurn (LineBy b) (lines s) c₀ l c) bytes u.in_turn

  pub sheet_beyond : (n : ℕ) → r ≡ Ok n → drop n m ≡ drop n m₀
  sheet_beyond n e =
      let (u, count) = front n e in
      ap₂ (λ (k : ℕ) (l : List ℕ). drop k l) count u.written ∙ drop-append_seam u.bytes (drop (length u.bytes) m₀) ∙ ap (λ (k : ℕ). drop k m₀) (sym count)

-- ---- a step

module _ (b s : List ℕ) (start : ℕ) (c₀ : List ℕ) (r : Step) (next : ℕ) (c : List ℕ) (o : StepOutcome b s start c₀ r next c) where
  -- the three ways in which a step comes out
  data Came : Type 0 where
    stopped : (x : Refusal) → step_refusal b s ≡ Err x → r ≡ Err x → next ≡ start → c ≡ c₀ → Came
    ended : step_refusal b s ≡ accepted → length s ≤ start → r ≡ Ok None → next ≡ start → c ≡ c₀ → Came
    line : (v : ℕ) → step_refusal b s ≡ accepted → start < length s → r ≡ Ok (Some v) → LineBy b (line_at s start) c₀ v c → next ≡ next_start s start → Came

  from_came : step_refusal b s ≡ accepted → (t : Bool) → ltb start (length s) ≡ t → StepFrom t b s start c₀ r next c → Came
  unfolding StepFrom
  from_came a true e h = line h.0 a (ltb-true start (length s) e) h.1 h.2 h.3
  from_came a false e h = ended a (ltb-false start (length s) e) h.0 h.1 h.2

  if_came : (v : Verdict) → step_refusal b s ≡ v → StepIf v b s start c₀ r next c → Came
  unfolding StepIf
  if_came (Ok _) e h = from_came e (ltb start (length s)) refl h
  if_came (Err x) e h = stopped x e h.0 h.1 h.2

  came : Came
  unfolding StepOutcome
  came = if_came (step_refusal b s) refl o

  -- A refusal is that of the verdict.
  pub step_refused_exactly : (x : Refusal) → (r ≡ Err x) ↔ (step_refusal b s ≡ Err x)
  step_refused_exactly x = (there came, back came)
    where
      there : Came → r ≡ Err x → step_refusal b s ≡ Err x
      there (stopped y v is stays same) e = v ∙ ap (λ (z : Refusal). Err z) (same_refusal {B = Option ℕ} (sym is ∙ e))
      there (ended a l is stays same) e = let z : ◌≡◌ {A = ℕ} 0 1 = cc in absurd (omega arith)
      there (line v a l is h goes) e = let z : ◌≡◌ {A = ℕ} 0 1 = cc in absurd (omega arith)

      back : Came → step_refusal b s ≡ Err x → r ≡ Err x
      back (stopped y v is stays same) e = is ∙ ap (λ (z : Refusal). Err z) (same_refusal {B = ⊤} (sym v ∙ e))
      back (ended a l is stays same) e = let z : ◌≡◌ {A = ℕ} 0 1 = cc in absurd (omega arith)
      back (line v a l is h goes) e = let z : ◌≡◌ {A = ℕ} 0 1 = cc in absurd (omega arith)

  -- No line is left exactly if the start is at or past the end.
  pub step_end_exactly : (r ≡ Ok None) ↔ ((step_refusal b s ≡ accepted) × (length s ≤ start))
  step_end_exactly = (there came, back came)
    where
      there : Came → r ≡ Ok None → (step_refusal b s ≡ accepted) × (length s ≤ start)
      there (stopped y v is stays same) e = let z : ◌≡◌ {A = ℕ} 0 1 = cc in absurd (omega arith)
      there (ended a l is stays same) e = (a, l)
      there (line v a l is h goes) e = let z : ◌≡◌ {A = ℕ} 0 1 = cc in absurd (omega arith)

      back : Came → (step_refusal b s ≡ accepted) × (length s ≤ start) → r ≡ Ok None
      back (stopped y v is stays same) (e, past) = let z : ◌≡◌ {A = ℕ} 0 1 = cc in absurd (omega arith)
      back (ended a l is stays same) (e, past) = is
      back (line v a l is h goes) (e, past) = absurd (omega arith)

  -- A line is the one that starts there, read, and the next start is behind it.
  pub step_line_says : (v : ℕ) → r ≡ Ok (Some v) → (step_refusal b s ≡ accepted) × (start < length s) × LineBy b (line_at s start) c₀ v c × (next ≡ next_start s start)
  step_line_says v = says came
    where
      says : Came → r ≡ Ok (Some v) → (step_refusal b s ≡ accepted) × (start < length s) × LineBy b (line_at s start) c₀ v c × (next ≡ next_start s start)
      says (stopped y u is stays same) e = let z : ◌≡◌ {A = ℕ} 0 1 = cc in absurd (omega arith)
      says (ended a l is stays same) e = let z : ◌≡◌ {A = ℕ} 0 1 = cc in absurd (omega arith)
      says (line u a l is h goes) e = let both : ◌≡◌ {A = Step} (Ok (Some u)) (Ok (Some v)) = sym is ∙ e in let bytes : u ≡ v = cc in (a, l, subst (λ (n : ℕ). LineBy b (line_at s start) c₀ n c) bytes h, goes)

  -- Otherwise the walker stays where it is, and the chart as it was.
  pub step_stays : ((v : ℕ) → r ≡ Ok (Some v) → ⊥) → (next ≡ start) × (c ≡ c₀)
  step_stays = stays_by came
    where
      stays_by : Came → ((v : ℕ) → r ≡ Ok (Some v) → ⊥) → (next ≡ start) × (c ≡ c₀)
      stays_by (stopped y u is stays same) other = (stays, same)
      stays_by (ended a l is stays same) other = (stays, same)
      stays_by (line u a l is h goes) other = absurd (other u is)

  -- With a place to start at, a line comes.
  pub step_line_comes : step_refusal b s ≡ accepted → start < length s → (v : ℕ) × (r ≡ Ok (Some v))
  step_line_comes = comes came
    where
      comes : Came → step_refusal b s ≡ accepted → start < length s → (v : ℕ) × (r ≡ Ok (Some v))
      comes (stopped y u is stays same) e l = let z : ◌≡◌ {A = ℕ} 0 1 = cc in absurd (omega arith)
      comes (ended a past is stays same) e l = absurd (omega arith)
      comes (line u a h is g goes) e l = (u, is)

  -- 1 to 9: the grammar's.
  pub step_grammar : (x : Refusal) → number_of x.fault ≤ 9 → (r ≡ Err x) ↔ (checked b ≡ Err x)
  step_grammar x small =
      let answer = step_refused_exactly x in
      let line = refusal_grammar b s x small in
      ((λ e. line.0 (answer.0 e)), (λ h. answer.1 (line.1 h)))

  -- 25: the sheet is over its limit; the place is its length.
  pub step_too_long : (k : ℕ) → (r ≡ refused LongSheet k) ↔ ((checked b ≡ accepted) × (sheet_limit < length s) × (k ≡ length s))
  step_too_long k =
      let answer = step_refused_exactly (refusal LongSheet k) in
      let line = refusal_long b s k in
      ((λ e. line.0 (answer.0 e)), (λ h. answer.1 (line.1 h)))

  -- There is no other number.
  pub step_numbers : (x : Refusal) → r ≡ Err x → (number_of x.fault ≤ 9) ⊎ (number_of x.fault ≡ 25)
  step_numbers x e = refusal_number b s ((step_refused_exactly x).0 e)

  pub step_no_line : (r ≡ Ok None) ↔ (((checked b ≡ accepted) × (length s ≤ sheet_limit)) × (length s ≤ start))
  step_no_line =
      let none = refusal_none b s in
      ((λ e. let (a, past) = step_end_exactly.0 e in (none.0 a, past)), (λ (a, past). step_end_exactly.1 (none.1 a, past)))

  -- The line is the first of those from the start on, and the others start where the walker stands then.
  pub step_others : (v : ℕ) → r ≡ Ok (Some v) → (lines (drop start s) ≡ line_at s start ∷ lines (drop next s)) × (start < next) × (next ≤ length s)
  step_others v e =
      let (a, l, read, goes) = step_line_says v e in
      (lines_at s start l ∙ ap (λ (k : ℕ). line_at s start ∷ lines (drop k s)) (sym goes), omega (arith, goes, next_later s start l), omega (arith, goes, next_within s start))
