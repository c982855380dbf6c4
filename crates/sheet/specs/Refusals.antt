-- The refusals of a sheet and of its summary, and their order (02, [4]).
use Rattle.std.specs.Prelude.{ℕ, List, [], ◌∷◌, ltb, length}
use Rattle.refusal.specs.Verdict.{refuse_if, in_order, Verdict}
use Rattle.priority.specs.Check.{checked}
use Rattle.split.specs.Lines.{lines}
use Rattle.refusal.specs.declared.Fault.TheVariants.{LongSheet, ShortSummary}

-- most bytes of a sheet
abbrev pub sheet_limit : ℕ
sheet_limit = 65535

-- 25: the sheet is over its limit; the place is its length
unfoldable pub sheet_too_long : List ℕ → Verdict
sheet_too_long s = refuse_if (ltb sheet_limit (length s)) LongSheet (length s)

-- 26: the summary is too short; the place is how many lines there are
unfoldable pub summary_too_short : (s summary : List ℕ) → Verdict
summary_too_short s summary = refuse_if (ltb (length summary) (length (lines s))) ShortSummary (length (lines s))

-- The refusals of a step: the grammar's, 25.
unfoldable pub step_refusal : (b s : List ℕ) → Verdict
step_refusal b s = in_order (checked b ∷ sheet_too_long s ∷ [])

-- The refusals of a sheet, judged before any line is read: the grammar's, 25, 26.
unfoldable pub sheet_refusal : (b s summary : List ℕ) → Verdict
sheet_refusal b s summary = in_order (checked b ∷ sheet_too_long s ∷ summary_too_short s summary ∷ [])
