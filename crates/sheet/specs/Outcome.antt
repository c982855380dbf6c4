-- The promises of the operations "a sheet" and "a step down a sheet" (02, [4]), stated once, for every grammar, sheet, chart, summary and start.
use Rattle.std.specs.Prelude.{ℕ, ◌≡◌, Bool, true, false, cond, List, [], ◌∷◌, eqb, ltb, length, Some, None as Nothing, Result, Ok, Err, Option}
use Rattle.common.specs.Lists.{overwritten}
use Rattle.engine.specs.Outcome.{Parsing, ChartAfter}
use Rattle.engine.specs.declared.Answer.{Answer}
use Rattle.engine.specs.Refusals.{too_long, text_refusal}
use Rattle.engine.specs.Roots.{parsing_by}
use Rattle.refusal.specs.Verdict.{in_order, Verdict}
use Rattle.parse.specs.Outcome.{too_short, reading_by}
use Rattle.split.specs.Lines.{lines, line_at, next_start}
use Rattle.sheet.specs.Refusals.{step_refusal, sheet_refusal}
use Rattle.theory.specs.Counts.{Counts}
use Rattle.engine.specs.declared.Answer.TheVariants.{None, One, Several, Refused}
use Rattle.refusal.specs.declared.Refusal.{Refusal}
use Rattle.refusal.specs.Fault.{number_of}
use Rattle.refusal.specs.declared.Fault.{Fault}

-- ---- a line

-- the summary byte of a line that is refused
abbrev pub refused_byte : ℕ
refused_byte = 3

-- By refusal 22 there is one parse, whose listing doesn't fit.
unfoldable pub fault_byte : Fault → ℕ
fault_byte fault = cond (eqb (number_of fault) 22) 1 refused_byte

-- The summary byte of what reading a line answers: 0 none, 1 one, 2 several, 3 refused. One whose listing doesn't fit, refusal 22, is one.
unfoldable pub byte_of : Answer Refusal → ℕ
byte_of None = 0
byte_of (One n) = 1
byte_of Several = 2
byte_of (Refused x) = fault_byte x.fault

-- A line is read. Refused, it has byte 3, and the chart, which held c₀, stays. Otherwise its byte v is how many parses it has, 2 for more, and the chart
-- is what parsing it leaves.
unfoldable pub LineRead : Verdict → Parsing → (c₀ : List ℕ) (v : ℕ) (c : List ℕ) → Type 0
LineRead (Ok _) p c₀ v c = Counts p.parse v × ChartAfter p c₀ c
LineRead (Err x) p c₀ v c = (v ≡ refused_byte) × (c ≡ c₀)

-- A line w is read by grammar b: 10 and 20 are the refusals that can fall on it.
unfoldable pub LineBy : (b w c₀ : List ℕ) (v : ℕ) (c : List ℕ) → Type 0
LineBy b w c₀ v c = LineRead (in_order (too_long w ∷ too_short b w c₀ ∷ [])) (reading_by b w) c₀ v c

-- The same by flat tables.
unfoldable pub TablesLine : (tables w c₀ : List ℕ) (v : ℕ) (c : List ℕ) → Type 0
TablesLine tables w c₀ v c = LineRead (text_refusal tables w c₀) (parsing_by tables w) c₀ v c

-- ---- lines

-- Each line is read in turn, a byte to each, and the chart is handed on: R says what becomes of one line.
unfoldable pub InTurn : ((w c₀ : List ℕ) (v : ℕ) (c : List ℕ) → Type 0) → (ws : List (List ℕ)) (c₀ bytes c : List ℕ) → Type 0
InTurn R [] c₀ [] c = c ≡ c₀
InTurn R [] c₀ (v ∷ bytes) c = ⊥
InTurn R (w ∷ ws) c₀ [] c = ⊥
InTurn R (w ∷ ws) c₀ (v ∷ bytes) c = (c₁ : List ℕ) × R w c₀ v c₁ × InTurn R ws c₁ bytes c

-- ---- the sheet

-- Its lines are read in turn, the summary, which held m₀, starts with their bytes, and bytes beyond stay.
pub record Summed (R : (w c₀ : List ℕ) (v : ℕ) (c : List ℕ) → Type 0) (s c₀ m₀ c m : List ℕ) : Type 0 where
  pub bytes : List ℕ
  pub in_turn : InTurn R (lines s) c₀ bytes c
  pub written : m ≡ overwritten bytes m₀

-- By a refusal nothing is changed. Otherwise the lines are read, and the answer is how many there are.
unfoldable pub SheetIf : Verdict → (b s c₀ m₀ : List ℕ) → Result ℕ Refusal → (c m : List ℕ) → Type 0
SheetIf (Ok _) b s c₀ m₀ r c m = (r ≡ Ok (length (lines s))) × Summed (LineBy b) s c₀ m₀ c m
SheetIf (Err x) b s c₀ m₀ r c m = (r ≡ Err x) × (c ≡ c₀) × (m ≡ m₀)

unfoldable pub SheetOutcome : (b s c₀ m₀ : List ℕ) → Result ℕ Refusal → (c m : List ℕ) → Type 0
SheetOutcome b s c₀ m₀ r c m = SheetIf (sheet_refusal b s m₀) b s c₀ m₀ r c m

-- ---- a step

-- What a step gives: the summary byte of a line, nothing if no line is left, or a refusal.
abbrev pub Step : Type 0
Step = Result (Option ℕ) Refusal

-- With a place of the sheet to start at, the line from there on is read, and the next start is that of the next line. Without one no line is left.
unfoldable pub StepFrom : Bool → (b s : List ℕ) (start : ℕ) (c₀ : List ℕ) → Step → (next : ℕ) (c : List ℕ) → Type 0
StepFrom true b s start c₀ r next c = (v : ℕ) × (r ≡ Ok (Some v)) × LineBy b (line_at s start) c₀ v c × (next ≡ next_start s start)
StepFrom false b s start c₀ r next c = (r ≡ Ok Nothing) × (next ≡ start) × (c ≡ c₀)

-- Refused, it stays where it is.
unfoldable pub StepIf : Verdict → (b s : List ℕ) (start : ℕ) (c₀ : List ℕ) → Step → (next : ℕ) (c : List ℕ) → Type 0
StepIf (Ok _) b s start c₀ r next c = StepFrom (ltb start (length s)) b s start c₀ r next c
StepIf (Err x) b s start c₀ r next c = (r ≡ Err x) × (next ≡ start) × (c ≡ c₀)

unfoldable pub StepOutcome : (b s : List ℕ) (start : ℕ) (c₀ : List ℕ) → Step → (next : ℕ) (c : List ℕ) → Type 0
StepOutcome b s start c₀ r next c = StepIf (step_refusal b s) b s start c₀ r next c
