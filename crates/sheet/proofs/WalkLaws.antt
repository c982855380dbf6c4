-- Going down a sheet step by step gives what reading its lines in turn gives: their bytes, their charts, and then no line.
use Prim.Native.Nat.{ℕ, zero, suc, ◌≤◌, ◌<◌}
use mathlib.Core.Path.{◌≡◌, refl, sym, ◌∙◌, ap, ap₂, subst, subst⁻¹}
use mathlib.Core.List.{List, [], ◌∷◌}
use mathlib.Core.Logic.{by_cases}
use native.Mathlib.Decide.{dec_lt}
use native.Mathlib.Omega.{arith}
use lib.ListN.{length, take, drop}
use lib.Seq.{take_all}
use Rattle.refusal.specs.Verdict.{accepted}
use Rattle.sheet.proofs.AnswerLaws.{sheet_read_exactly, sheet_in_turn, step_end_exactly, step_line_says, step_line_comes, step_stays}
use Rattle.sheet.proofs.InTurnLaws.{turn_length, turn_unique}
use Rattle.sheet.proofs.LineLaws.{line_unique}
use Rattle.split.proofs.LinesLaws.{lines_at, lines_end}
use Rattle.sheet.proofs.RefusalLaws.{sheet_room}
use Rattle.split.specs.Lines.{lines, line_at, next_start}
use Rattle.sheet.specs.Outcome.{LineBy, InTurn, SheetOutcome, StepOutcome, Step}
use Rattle.sheet.specs.Refusals.{step_refusal}
use Rattle.sheet.specs.Walk.{Steps, given}
use Rattle.std.specs.Prelude.{Some, None, Ok}

module _ (b s : List ℕ) (allowed : step_refusal b s ≡ accepted) where
  -- What steps give, and what the chart holds then: that of as many lines, read in turn.
  pub record Gave (ws : List (List ℕ)) (c₀ bytes : List ℕ) (rs : List Step) (c : List ℕ) : Type 0 where
    pub steps : rs ≡ given (length rs) bytes
    pub chart : InTurn (LineBy b) (take (length rs) ws) c₀ (take (length rs) bytes) c

  -- no line is left
  gave_end : (start : ℕ) (c₀ : List ℕ) (r : Step) (then : ℕ) (c₁ : List ℕ) → StepOutcome b s start c₀ r then c₁ → length s ≤ start → (r ≡ Ok None) × (then ≡ start) × (c₁ ≡ c₀)
  gave_end start c₀ r then c₁ o past =
      let is = (step_end_exactly b s start c₀ r then c₁ o).1 (allowed, past) in
      let stays = step_stays b s start c₀ r then c₁ o (λ v e. let z : ◌≡◌ {A = ℕ} 0 1 = cc in omega arith) in
      (is, stays.0, stays.1)

  -- a line: its byte and its chart are those of reading it
  gave_line : (start : ℕ) (c₀ : List ℕ) (r : Step) (then : ℕ) (c₁ : List ℕ) → StepOutcome b s start c₀ r then c₁ → start < length s
      → (v : ℕ) (c : List ℕ) → LineBy b (line_at s start) c₀ v c → (r ≡ Ok (Some v)) × (then ≡ next_start s start) × (c₁ ≡ c)
  gave_line start c₀ r then c₁ o l v c h =
      let (u, is) = step_line_comes b s start c₀ r then c₁ o allowed l in
      let (a, below, read, goes) = step_line_says b s start c₀ r then c₁ o u is in
      let same = line_unique b (line_at s start) c₀ u v c₁ c read h in
      (is ∙ ap (λ (v : ℕ). Ok (Some v)) same.0, goes, same.1)

  gives : (rs : List Step) (start : ℕ) (c₀ bytes end : List ℕ) (next : ℕ) (c : List ℕ) (ws : List (List ℕ)) → lines (drop start s) ≡ ws
      → InTurn (LineBy b) ws c₀ bytes end → Steps b s start c₀ rs next c → Gave ws c₀ bytes rs c
  unfolding Steps given InTurn
  gives [] start c₀ bytes end next c ws e t (stays, same) = record { steps = refl; chart = same }
  gives (r ∷ rs) start c₀ [] end next c [] e t (then, c₁, o, more) =
      by_cases (dec_lt start (length s))
      (λ l. absurd (omega (arith, ap length (sym e ∙ lines_at s start l))))
      (λ past.
      let (is, stays, same) = gave_end start c₀ r then c₁ o (omega arith) in
      let rest = gives rs start c₀ [] end next c [] e t (subst (λ (d : List ℕ). Steps b s start d rs next c) same (subst (λ (n : ℕ). Steps b s n c₁ rs next c) stays more)) in
      record { steps = ap₂ (λ (x : Step) (xs : List Step). x ∷ xs) is rest.steps; chart = none_left (length rs) rest.chart })
    where
      none_left : (k : ℕ) → InTurn (LineBy b) (take k []) c₀ (take k []) c → c ≡ c₀
      none_left zero h = h
      none_left (suc k) h = h
  gives (r ∷ rs) start c₀ (v ∷ bytes) end next c [] e t u = absurd t
  gives (r ∷ rs) start c₀ [] end next c (w ∷ ws) e t u = absurd t
  gives (r ∷ rs) start c₀ (v ∷ bytes) end next c (w ∷ ws) e (c₂, read, others) (then, c₁, o, more) =
      by_cases (dec_lt start (length s))
      (λ l.
      let both : line_at s start ∷ lines (drop (next_start s start) s) ≡ w ∷ ws = sym (lines_at s start l) ∙ e in
      let line : line_at s start ≡ w = cc in
      let behind : lines (drop (next_start s start) s) ≡ ws = cc in
      let (is, goes, same) = gave_line start c₀ r then c₁ o l v c₂ (subst⁻¹ (λ (x : List ℕ). LineBy b x c₀ v c₂) line read) in
      let rest =
      gives rs (next_start s start) c₂ bytes end next c ws behind others (subst (λ (d : List ℕ). Steps b s (next_start s start) d rs next c) same (subst (λ (n : ℕ). Steps b s n c₁ rs next c) goes more)) in
      record { steps = ap₂ (λ (x : Step) (xs : List Step). x ∷ xs) is rest.steps; chart = (c₂, read, rest.chart) })
      (λ past. absurd (omega (arith, ap length (sym e ∙ lines_end s start (omega arith)))))

  -- A walker begun at 0.
  pub walk_gives : (c₀ bytes end : List ℕ) → InTurn (LineBy b) (lines s) c₀ bytes end → (rs : List Step) (next : ℕ) (c : List ℕ) → Steps b s 0 c₀ rs next c → Gave (lines s) c₀ bytes rs c
  walk_gives c₀ bytes end t rs next c u = gives rs 0 c₀ bytes end next c (lines s) refl t u

-- A walker begun at 0 with the chart that a sheet was read with: the bytes of its summary, the charts of its lines, and in the end the sheet's.
pub walk_summary : (b s c₀ m₀ : List ℕ) (n : ℕ) (c m : List ℕ) → SheetOutcome b s c₀ m₀ (Ok n) c m → (rs : List Step) (next : ℕ) (d : List ℕ) → Steps b s 0 c₀ rs next d
    → (rs ≡ given (length rs) (take n m)) × InTurn (LineBy b) (take (length rs) (lines s)) c₀ (take (length rs) (take n m)) d × (length (take n m) ≤ length rs → d ≡ c)
walk_summary b s c₀ m₀ n c m o rs next d u =
    let read = sheet_in_turn b s c₀ m₀ (Ok n) c m o n refl in
    let allowed = (sheet_room b s m₀ ((sheet_read_exactly b s c₀ m₀ (Ok n) c m o n).0 refl).0).0 in
    let gave = walk_gives b s allowed c₀ (take n m) c read rs next d u in (
      gave.steps,
      gave.chart,
      λ many.
          let count = turn_length (LineBy b) (lines s) c₀ (take n m) c read in
          let all = subst (λ (ws : List (List ℕ)). InTurn (LineBy b) ws c₀ (take n m) d) (take_all (length rs) (lines s) (omega arith))
          (subst (λ (l : List ℕ). InTurn (LineBy b) (take (length rs) (lines s)) c₀ l d) (take_all (length rs) (take n m) many) gave.chart) in
          (turn_unique (LineBy b) (line_unique b) (lines s) c₀ (take n m) (take n m) d c all read).1,
    )
