-- A grammar with ranges turned round (02, [3]) reads every sheet, and takes every step, with the same outcome.
use Prim.Native.Nat.{ℕ}
use mathlib.Core.Path.{◌≡◌, ap, subst}
use mathlib.Core.Bool.{Bool, true, false}
use mathlib.Core.List.{List, [], ◌∷◌}
use lib.Dec.{ltb}
use lib.ListN.{length}
use Rattle.engine.specs.Refusals.{too_long, chart_too_short}
use Rattle.grammar.specs.Turned.{TurnedRound}
use Rattle.refusal.specs.Verdict.{in_order, Verdict}
use Rattle.parse.proofs.TurnedLaws.{turned_chart_bytes, turned_parsing}
use Rattle.parse.specs.Outcome.{reading_by, too_short}
use Rattle.priority.proofs.TurnedLaws.{turned_checked}
use Rattle.sheet.proofs.InTurnLaws.{turn_carried}
use Rattle.sheet.proofs.LineLaws.{line_same}
use Rattle.split.specs.Lines.{lines, line_at}
use Rattle.sheet.specs.Outcome.{LineRead, LineBy, Summed, SheetIf, SheetOutcome, StepFrom, StepIf, StepOutcome, Step}
use Rattle.sheet.specs.Refusals.{sheet_too_long, summary_too_short, step_refusal, sheet_refusal}
use Rattle.std.specs.Prelude.{Result, Err, Ok}
use Rattle.refusal.specs.declared.Refusal.{Refusal}

module _ (b d : List ℕ) (t : TurnedRound b d) where
  turned_line : (w c₀ : List ℕ) (v : ℕ) (c : List ℕ) → LineBy d w c₀ v c → LineBy b w c₀ v c
  unfolding LineBy
  turned_line w c₀ v c h =
      line_same (reading_by d w) (reading_by b w) (turned_parsing b d t w) (in_order (too_long w ∷ too_short b w c₀ ∷ [])) c₀ v c
      (subst (λ (n : ℕ). LineRead (in_order (too_long w ∷ chart_too_short n c₀ ∷ [])) (reading_by d w) c₀ v c) (turned_chart_bytes b d t (length w)) h)

  -- ---- the sheet

  turned_summed : (s c₀ m₀ c m : List ℕ) → Summed (LineBy d) s c₀ m₀ c m → Summed (LineBy b) s c₀ m₀ c m
  turned_summed s c₀ m₀ c m h = record { bytes = h.bytes; in_turn = turn_carried (LineBy d) (LineBy b) turned_line (lines s) c₀ h.bytes c h.in_turn; written = h.written }

  turned_sheet_if : (v : Verdict) (s c₀ m₀ : List ℕ) (r : Result ℕ Refusal) (c m : List ℕ) → SheetIf v d s c₀ m₀ r c m → SheetIf v b s c₀ m₀ r c m
  unfolding SheetIf
  turned_sheet_if (Ok _) s c₀ m₀ r c m h = (h.0, turned_summed s c₀ m₀ c m h.1)
  turned_sheet_if (Err x) s c₀ m₀ r c m h = h

  turned_sheet_refusal : (s m : List ℕ) → sheet_refusal d s m ≡ sheet_refusal b s m
  unfolding sheet_refusal
  turned_sheet_refusal s m = ap (λ (v : Verdict). in_order (v ∷ sheet_too_long s ∷ summary_too_short s m ∷ [])) (turned_checked b d t)

  pub turned_sheet : (s c₀ m₀ : List ℕ) (r : Result ℕ Refusal) (c m : List ℕ) → SheetOutcome d s c₀ m₀ r c m → SheetOutcome b s c₀ m₀ r c m
  unfolding SheetOutcome
  turned_sheet s c₀ m₀ r c m h = turned_sheet_if (sheet_refusal b s m₀) s c₀ m₀ r c m (subst (λ (v : Verdict). SheetIf v d s c₀ m₀ r c m) (turned_sheet_refusal s m₀) h)

  -- ---- a step

  module _ (s : List ℕ) (start : ℕ) (c₀ : List ℕ) (r : Step) (next : ℕ) (c : List ℕ) where
    turned_from : (left : Bool) → StepFrom left d s start c₀ r next c → StepFrom left b s start c₀ r next c
    unfolding StepFrom
    turned_from true (v, is, h, goes) = (v, is, turned_line (line_at s start) c₀ v c h, goes)
    turned_from false h = h

    turned_step_if : (v : Verdict) → StepIf v d s start c₀ r next c → StepIf v b s start c₀ r next c
    unfolding StepIf
    turned_step_if (Ok _) h = turned_from (ltb start (length s)) h
    turned_step_if (Err x) h = h

    turned_step_refusal : step_refusal d s ≡ step_refusal b s
    unfolding step_refusal
    turned_step_refusal = ap (λ (v : Verdict). in_order (v ∷ sheet_too_long s ∷ [])) (turned_checked b d t)

    pub turned_step : StepOutcome d s start c₀ r next c → StepOutcome b s start c₀ r next c
    unfolding StepOutcome
    turned_step h = turned_step_if (step_refusal b s) (subst (λ (v : Verdict). StepIf v d s start c₀ r next c) turned_step_refusal h)
