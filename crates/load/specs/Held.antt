-- What the tables hold while a flat text is read: what is complete, and nothing else.
use Rattle.std.specs.Prelude.{ℕ, ◌+◌, ◌-◌, ◌<◌, ◌≤◌, ◌≡◌, Bool, false, true, cond, ◌&&◌, ◌||◌, List, ◌⊎◌, leb, ltb, eqb, length, get_or, set, take, Result, Ok, Err}
use Rattle.refusal.specs.Verdict.{refused}
use Rattle.refusal.specs.declared.Fault.TheVariants.{Form}
use Rattle.refusal.specs.declared.Refusal.{Refusal}
use Rattle.ccg.specs.Ccg.{no_line, no_class}
use Rattle.ccg.specs.Tables.{table_class}
use Rattle.ccg.specs.Text.{number_limit}
use Rattle.charset.specs.Runs.{Range, covered}
use Rattle.charset.specs.Set.{characters}
use Rattle.form.specs.Form.{Says, NotInForm}
use Rattle.form.specs.Read.{Memory, range_to, ends_range, Room, Told}
use Rattle.form.specs.Step.{start, steps, goes_on, may_end}
use Rattle.form.specs.declared.Spot.{Spot}
use Rattle.form.specs.declared.Spot.TheVariants.{Between, Opened, Slash, Number, Dash, Closed, Ending, Stuck}
use Rattle.form.specs.declared.State.{State}
use Rattle.layout.specs.Limits.{production_limit, argument_limit}
use Rattle.tables.specs.Layout.{slot, slots, class_bits, class_bit, table_words}
use Rattle.theory.specs.Tree.{production_number}

-- ---- one step

-- the bit of a number in a class: characters first, and behind them productions
unfoldable pub number_bit : ℕ → ℕ
number_bit n = cond (ltb n characters) n (n - (production_number 0 - characters))

-- The class of slot s has the bits from first on, up to end, as well, and nothing else was changed in any.
pub record BitsAdded (s first end : ℕ) (t₀ t : List ℕ) : Type 0 where
  pub long : length t ≡ length t₀
  pub members : (q y : ℕ) → q ≤ slots → y < class_bits → class_bit t q y ≡ (class_bit t₀ q y || (eqb q s && (leb first y && ltb y end)))

-- a range was added if the byte behind it ends it
unfoldable pub RangeNoted : Bool → ℕ → Range → (t₀ t : List ℕ) → Type 0
RangeNoted false s x t₀ t = t ≡ t₀
RangeNoted true s x t₀ t = BitsAdded s (number_bit x.low) (number_bit x.high + 1) t₀ t

-- What is written behind one byte more: a range that is complete, or how many arguments a line has that ends.
unfoldable pub Noted : (line argument : ℕ) → Spot → ℕ → (t₀ c₀ t c : List ℕ) → Type 0
Noted r a Between b t₀ c₀ t c = (t ≡ t₀) × (c ≡ c₀)
Noted r a Opened b t₀ c₀ t c = (t ≡ t₀) × (c ≡ c₀)
Noted r a (Slash dashed low) b t₀ c₀ t c = (t ≡ t₀) × (c ≡ c₀)
Noted r a (Number dashed low v) b t₀ c₀ t c = RangeNoted (ends_range b) (slot r a) (range_to dashed low v) t₀ t × (c ≡ c₀)
Noted r a (Dash low) b t₀ c₀ t c = (t ≡ t₀) × (c ≡ c₀)
Noted r a Closed b t₀ c₀ t c = (t ≡ t₀) × (c ≡ c₀)
Noted r a (Ending k) b t₀ c₀ t c = (t ≡ t₀) × (c ≡ set c₀ r a)
Noted r a Stuck b t₀ c₀ t c = (t ≡ t₀) × (c ≡ c₀)

-- the numbers that it takes are small
unfoldable pub Notable : (line argument : ℕ) → Spot → Type 0
Notable r a Between = Unit {0}
Notable r a Opened = Unit {0}
Notable r a (Slash dashed low) = Unit {0}
Notable r a (Number dashed low v) = Room r a × (v < number_limit) × (dashed ≡ true → 1 ≤ low)
Notable r a (Dash low) = Unit {0}
Notable r a Closed = Unit {0}
Notable r a (Ending k) = (r < production_limit) × (a ≤ argument_limit)
Notable r a Stuck = Unit {0}

-- ---- all of them

-- The class of slot s has the numbers of cc.
abbrev pub Has : List ℕ → ℕ → (ℕ → Bool) → Type 0
Has t s cc = (n : ℕ) → n < number_limit → table_class t s n ≡ cc n

-- The tables hold what was read, and the counts how many arguments each line has.
pub record Held (m : Memory) (t counts : List ℕ) : Type 0 where
  pub long : length t ≡ table_words
  pub many : length counts ≡ production_limit
  pub counted : (p : ℕ) → p < length m.lines → get_or counts p 0 ≡ length (get_or m.lines p no_line).arguments
  pub lines : (p i : ℕ) → p < length m.lines → i < length (get_or m.lines p no_line).arguments → Has t (slot p i) (get_or (get_or m.lines p no_line).arguments i no_class)
  pub arguments : (i : ℕ) → i < length m.arguments → Has t (slot (length m.lines) i) (get_or m.arguments i no_class)
  pub ranges : Room (length m.lines) (length m.arguments) → Has t (slot (length m.lines) (length m.arguments)) (covered m.ranges)
  pub rest : (p i : ℕ) → p < production_limit → i < argument_limit → (length m.lines < p) ⊎ ((p ≡ length m.lines) × (length m.arguments < i)) → Has t (slot p i) no_class

-- Behind the first i bytes of a text: the state there, what was read, and the tables that hold it.
pub record Reached (text : List ℕ) (i : ℕ) (s : State) (t counts : List ℕ) : Type 0 where
  pub within : i ≤ length text
  pub state : s ≡ steps start (take i text)
  pub on : goes_on s.spot ≡ true
  pub memory : Memory
  pub told : Told s memory (take i text)
  pub held : Held memory t counts

-- the answer at the end of a text: all its lines, or 27
unfoldable pub end_answer : ℕ → State → Result ℕ Refusal
end_answer i s = cond (may_end s) (Ok s.line) (refused Form i)

-- A text that is read: its lines are in the tables, or it is not in the form.
unfoldable pub LinesRead : List ℕ → Result ℕ Refusal → (t counts : List ℕ) → Type 0
LinesRead text (Ok n) t counts = (m : Memory) × Held m t counts × Says text m.lines × (n ≡ length m.lines)
LinesRead text (Err r) t counts = (r.fault ≡ Form) × NotInForm text r.place

-- Counts of arguments within the limit.
abbrev pub Few : List ℕ → Type 0
Few counts = (p : ℕ) → get_or counts p 0 ≤ argument_limit
