-- A machine that goes through a text byte by byte. It is no part of any promise: the laws say that it stops exactly where no text of the written form goes on.
use Rattle.std.specs.Prelude.{ℕ, ◌+◌, ◌-◌, ◌*◌, ◌≤◌, ◌<◌, Bool, false, true, cond, ◌&&◌, ◌||◌, List, [], ◌∷◌, leb, ltb, eqb, get_or}
use Rattle.ccg.specs.Text.{dash, bracket_open, backslash, bracket_close, number_limit, result_text}
use Rattle.charset.specs.Set.{characters}
use Rattle.common.specs.Below.{between}
use Rattle.form.specs.declared.Spot.{Spot}
use Rattle.form.specs.declared.Spot.TheVariants.{Between, Opened, Slash, Number, Dash, Closed, Ending, Stuck}
use Rattle.form.specs.declared.State.{State}
use Rattle.layout.specs.Limits.{production_limit, argument_limit}
use Rattle.theory.specs.Tree.{production_number}
use Rattle.writing.specs.Bytes.{space}
use Rattle.writing.specs.Digits.{is_digit}
use Rattle.writing.specs.Numeral.{digit_zero, numeral_base}

-- ---- which numbers may come

-- the last character, and the last number that a line could have
abbrev pub last_character : ℕ
last_character = characters - 1

abbrev pub last_number : ℕ
last_number = number_limit - 1

-- The last number of the kind that a class has whose next number is at least `low`.
unfoldable pub last_from : ℕ → ℕ
last_from low = cond (ltb low (production_number 0)) last_character last_number

-- A number that may come next: at least `low` and of its kind. With 0 nothing came before, and it may be of either.
unfoldable pub allowed : (low n : ℕ) → Bool
allowed low n = between low (last_from low) n || (eqb low 0 && between (production_number 0) last_number n)

-- ---- which numerals may come

-- the numbers from a to b and those from low to high have one in common
unfoldable pub meets : (low high a b : ℕ) → Bool
meets low high a b = leb a high && leb low b

-- The digits of v begin the numeral of a number from low to high: v itself, or, if it isn't 0, one with a digit or two digits more. No number has more than three.
unfoldable pub begins : (low high v : ℕ) → Bool
begins low high v =
    leb low high && (meets low high v v || (leb 1 v && (meets low high (v * 10) (v * 10 + 9) || meets low high (v * 100) (v * 100 + 99))))

-- they begin that of a number that may come next
unfoldable pub begun : (low v : ℕ) → Bool
begun low v = begins low (last_from low) v || (eqb low 0 && begins (production_number 0) last_number v)

-- ---- one byte

abbrev pub state : (line argument : ℕ) → Spot → State
state r a s = record { line = r; argument = a; spot = s }

-- the end of a line, from its arrow on, has so many bytes
abbrev pub ending_length : ℕ
ending_length = 10

-- byte k of the end of line r
unfoldable pub ending_byte : ℕ → ℕ → ℕ
ending_byte r k = get_or (result_text (production_number r)) k 0

-- behind a number v: a dash if it begins its range, another range, or the class's end
unfoldable pub behind_number : Bool → ℕ → ℕ → Spot
behind_number dashed v b =
    cond (eqb b dash) (cond dashed Stuck (Dash (v + 1)))
    (cond (eqb b backslash) (Slash false (v + 2))
    (cond (eqb b bracket_close) Closed
    Stuck))

-- in a number that has the value v so far
unfoldable pub in_number : Bool → ℕ → ℕ → ℕ → Spot
in_number dashed low v b =
    cond (is_digit b) (cond (eqb v 0) Stuck (Number dashed low (v * numeral_base + (b - digit_zero))))
    (cond (allowed low v) (behind_number dashed v b)
    Stuck)

-- behind the bracket that opens a class
unfoldable pub behind_open : ℕ → Spot
behind_open b = cond (eqb b backslash) (Slash false 0) (cond (eqb b bracket_close) Closed Stuck)

-- behind a backslash
unfoldable pub behind_slash : Bool → ℕ → ℕ → Spot
behind_slash dashed low b = cond (is_digit b) (Number dashed low (b - digit_zero)) Stuck

-- behind the dash of a range
unfoldable pub behind_dash : ℕ → ℕ → Spot
behind_dash low b = cond (eqb b backslash) (Slash true low) Stuck

-- where an argument or the end of line r may begin
unfoldable pub in_line : ℕ → ℕ → ℕ → Spot
in_line r a b =
    cond (leb production_limit r) Stuck
    (cond (eqb b dash) (Ending 1)
    (cond (leb argument_limit a) Stuck
    (cond (eqb b bracket_open) Opened
    Stuck)))

-- behind k bytes of the end of line r, which has a arguments
unfoldable pub in_ending : ℕ → ℕ → ℕ → ℕ → State
in_ending r a k b =
    cond (eqb b (ending_byte r k)) (cond (eqb (k + 1) ending_length) (state (r + 1) 0 Between) (state r a (Ending (k + 1))))
    (state r a Stuck)

-- behind an argument's class
unfoldable pub behind_class : ℕ → ℕ → ℕ → State
behind_class r a b = cond (eqb b space) (state r (a + 1) Between) (state r a Stuck)

unfoldable pub step_at : ℕ → ℕ → Spot → ℕ → State
step_at r a Between b = state r a (in_line r a b)
step_at r a Opened b = state r a (behind_open b)
step_at r a (Slash dashed low) b = state r a (behind_slash dashed low b)
step_at r a (Number dashed low v) b = state r a (in_number dashed low v b)
step_at r a (Dash low) b = state r a (behind_dash low b)
step_at r a Closed b = behind_class r a b
step_at r a (Ending k) b = in_ending r a k b
step_at r a Stuck b = state r a Stuck

abbrev pub step : State → ℕ → State
step s b = step_at s.line s.argument s.spot b

-- where every text begins
abbrev pub start : State
start = state 0 0 Between

-- all bytes of a text
unfoldable pub steps : State → List ℕ → State
steps s [] = s
steps s (b ∷ text) = steps (step s b) text

-- ---- whether a text goes on

-- some text of the form goes on from here
unfoldable pub goes_on : Spot → Bool
goes_on Between = true
goes_on Opened = true
goes_on (Slash dashed low) = leb low (last_from low)
goes_on (Number dashed low v) = begun low v
goes_on (Dash low) = leb low (last_from low)
goes_on Closed = true
goes_on (Ending k) = true
goes_on Stuck = false

-- the text may end here: behind a line
unfoldable pub may_end_at : ℕ → ℕ → Spot → Bool
may_end_at r a Between = leb 1 r && eqb a 0
may_end_at r a Opened = false
may_end_at r a (Slash dashed low) = false
may_end_at r a (Number dashed low v) = false
may_end_at r a (Dash low) = false
may_end_at r a Closed = false
may_end_at r a (Ending k) = false
may_end_at r a Stuck = false

abbrev pub may_end : State → Bool
may_end s = may_end_at s.line s.argument s.spot

-- ---- what code has to know

-- Numbers that stay small: as many lines and arguments as there may be, and a value that has one digit more than it may have.
unfoldable pub SmallSpot : ℕ → Spot → Type 0
SmallSpot r Between = Unit {0}
SmallSpot r Opened = Unit {0}
SmallSpot r (Slash dashed low) = Unit {0}
SmallSpot r (Number dashed low v) = v < number_limit
SmallSpot r (Dash low) = Unit {0}
SmallSpot r Closed = Unit {0}
SmallSpot r (Ending k) = (r < production_limit) × (k < ending_length)
SmallSpot r Stuck = Unit {0}

-- behind one byte more its value may have one digit more
unfoldable pub ShortSpot : Spot → Type 0
ShortSpot Between = Unit {0}
ShortSpot Opened = Unit {0}
ShortSpot (Slash dashed low) = Unit {0}
ShortSpot (Number dashed low v) = v < number_limit * numeral_base
ShortSpot (Dash low) = Unit {0}
ShortSpot Closed = Unit {0}
ShortSpot (Ending k) = Unit {0}
ShortSpot Stuck = Unit {0}

pub record Small (s : State) : Type 0 where
  pub line : s.line ≤ production_limit
  pub argument : s.argument ≤ argument_limit
  pub spot : SmallSpot s.line s.spot
