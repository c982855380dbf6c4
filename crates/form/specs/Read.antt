-- What was read behind some bytes of a text: with the state of the machine it says these bytes again.
use Rattle.std.specs.Prelude.{ℕ, ◌+◌, ◌-◌, ◌≤◌, ◌<◌, ◌≡◌, Bool, true, cond, ◌||◌, List, [], ◌∷◌, ◌++◌, ◌⊎◌, eqb, length, get_or, take}
use Rattle.ccg.specs.Ccg.{Class, Line, no_line, no_class}
use Rattle.ccg.specs.Text.{dash, bracket_open, backslash, bracket_close, range_text, arguments_text, result_text, grammar_text}
use Rattle.ccg.specs.Written.{OneKind, WrittenForm}
use Rattle.charset.specs.Runs.{Range, range, covered}
use Rattle.common.specs.Lists.{joined}
use Rattle.form.specs.Step.{last_from, allowed, ending_length}
use Rattle.form.specs.declared.Spot.{Spot}
use Rattle.form.specs.declared.Spot.TheVariants.{Between, Opened, Slash, Number, Dash, Closed, Ending, Stuck}
use Rattle.form.specs.declared.State.{State}
use Rattle.layout.specs.Limits.{production_limit, argument_limit}
use Rattle.theory.specs.Tree.{production_number}
use Rattle.writing.specs.Numeral.{numeral}

-- ---- what is complete

-- The lines, the arguments of the next line, and the ranges of the class that is open.
pub record Memory : Type 0 where
  pub lines : List Line
  pub arguments : List Class
  pub ranges : List Range

abbrev pub memory : List Line → List Class → List Range → Memory
memory lines arguments ranges = record { lines = lines; arguments = arguments; ranges = ranges }

abbrev pub nothing : Memory
nothing = memory [] [] []

-- the range that v ends: from the number before the dash, if there was one
unfoldable pub range_to : Bool → ℕ → ℕ → Range
range_to dashed low v = range (cond dashed (low - 1) v) v

-- one range, argument or line more
abbrev pub with_range : Memory → Range → Memory
with_range m r = memory m.lines m.arguments (m.ranges ++ (r ∷ []))

abbrev pub with_argument : Memory → Memory
with_argument m = memory m.lines (m.arguments ++ (covered m.ranges ∷ [])) []

abbrev pub with_line : Memory → Memory
with_line m = memory (m.lines ++ (record { arguments = m.arguments; result = production_number (length m.lines) } ∷ [])) [] []

-- a byte that ends a range if it stands behind a number: the next range's first, or the class's last
unfoldable pub ends_range : ℕ → Bool
ends_range b = eqb b backslash || eqb b bracket_close

-- what is complete behind one byte more
unfoldable pub remember : Spot → Memory → ℕ → Memory
remember Between m b = m
remember Opened m b = m
remember (Slash dashed low) m b = m
remember (Number dashed low v) m b = cond (ends_range b) (with_range m (range_to dashed low v)) m
remember (Dash low) m b = m
remember Closed m b = with_argument m
remember (Ending k) m b = cond (eqb (k + 1) ending_length) (with_line m) m
remember Stuck m b = m

-- ---- what it says

abbrev pub ranges_text : List Range → List ℕ
ranges_text rs = joined range_text rs

-- the number before the dash, the dash, and the backslash behind it
unfoldable pub dashed_text : Bool → ℕ → List ℕ
dashed_text dashed low = cond dashed (numeral (low - 1) ++ dash ∷ backslash ∷ []) []

-- what is not complete of line r
unfoldable pub open_text : ℕ → Spot → List Range → List ℕ
open_text r Between rs = []
open_text r Opened rs = bracket_open ∷ ranges_text rs
open_text r (Slash dashed low) rs = bracket_open ∷ (ranges_text rs ++ backslash ∷ dashed_text dashed low)
open_text r (Number dashed low v) rs = bracket_open ∷ (ranges_text rs ++ backslash ∷ (dashed_text dashed low ++ numeral v))
open_text r (Dash low) rs = bracket_open ∷ (ranges_text rs ++ backslash ∷ (numeral (low - 1) ++ dash ∷ []))
open_text r Closed rs = bracket_open ∷ (ranges_text rs ++ bracket_close ∷ [])
open_text r (Ending k) rs = take k (result_text (production_number r))
open_text r Stuck rs = []

abbrev pub complete_text : Memory → List ℕ
complete_text m = grammar_text m.lines ++ arguments_text m.arguments

-- ---- that it is right

-- Ranges of one kind that rise without touching, the first of them at least at `low`; behind them a number may come that is at least `next`.
unfoldable pub Rising : (low : ℕ) → List Range → (next : ℕ) → Type 0
Rising low [] next = low ≡ next
Rising low (r ∷ rs) next = (allowed low r.low ≡ true) × (r.low ≤ r.high) × (r.high ≤ last_from r.low) × Rising (r.high + 2) rs next

-- A number that is at least `low` may come behind them: as a first one, or as the end of a range.
unfoldable pub Awaits : Bool → (low : ℕ) → List Range → Type 0
Awaits dashed low rs = cond dashed ((l : ℕ) × (next : ℕ) × Rising 0 rs next × (allowed next l ≡ true) × (low ≡ l + 1)) (Rising 0 rs low)

-- There may be one more line, and in it one more argument.
abbrev pub Room : ℕ → ℕ → Type 0
Room r a = (r < production_limit) × (a < argument_limit)

unfoldable pub Expected : (line argument : ℕ) → Spot → List Range → Type 0
Expected r a Between rs = (rs ≡ []) × ((r < production_limit) ⊎ (a ≡ 0))
Expected r a Opened rs = (rs ≡ []) × Room r a
Expected r a (Slash dashed low) rs = Awaits dashed low rs × Room r a
Expected r a (Number dashed low v) rs = Awaits dashed low rs × Room r a
Expected r a (Dash low) rs = Awaits true low rs × Room r a
Expected r a Closed rs = ((next : ℕ) × Rising 0 rs next) × Room r a
Expected r a (Ending k) rs = (rs ≡ []) × (r < production_limit) × (k < ending_length)
Expected r a Stuck rs = ⊥

-- Lines as a flat text has them, but for their count.
pub record GoodLines (g : List Line) : Type 0 where
  pub few_arguments : (p : ℕ) → p < length g → length (get_or g p no_line).arguments ≤ argument_limit
  pub form : WrittenForm g

-- The bytes u brought the machine to s, and m is what was read.
pub record Told (s : State) (m : Memory) (u : List ℕ) : Type 0 where
  pub line : s.line ≡ length m.lines
  pub argument : s.argument ≡ length m.arguments
  pub few_lines : s.line ≤ production_limit
  pub few_arguments : s.argument ≤ argument_limit
  pub good_lines : GoodLines m.lines
  pub good_arguments : (i : ℕ) → i < length m.arguments → OneKind (get_or m.arguments i no_class)
  pub expected : Expected s.line s.argument s.spot m.ranges
  pub text : u ≡ complete_text m ++ open_text s.line s.spot m.ranges
