-- Refusal 28: numbers of lines that are not there (02, [7]).
use Rattle.std.specs.Prelude.{ℕ, ◌+◌, ◌-◌, ◌≤◌, ◌<◌, true, ◌≡◌, List, length, get_or}
use Rattle.ccg.specs.Ccg.{Class, Line, no_line, no_class}
use Rattle.refusal.specs.Verdict.{refuse_if, first_refusal, Verdict}
use Rattle.refusal.specs.declared.Fault.TheVariants.{NoLine}
use Rattle.layout.specs.Limits.{production_limit}
use Rattle.theory.specs.Tree.{production_number}

-- Of `count` lines, a class names one that is not there: the one with number k behind them.
unfoldable pub absent_at : (count : ℕ) → Class → ℕ → Verdict
absent_at count cc k = refuse_if (cc (production_number (count + k))) NoLine (production_number (count + k))

-- The place is the number; of several in a class it is the lowest.
unfoldable pub absent_in : (count : ℕ) → Class → Verdict
absent_in count cc = first_refusal (production_limit - count) (absent_at count cc)

-- in a line the first argument that has one
unfoldable pub absent_in_argument : (count : ℕ) → Line → ℕ → Verdict
absent_in_argument count l i = absent_in count (get_or l.arguments i no_class)

unfoldable pub absent_in_line : (count : ℕ) → Line → Verdict
absent_in_line count l = first_refusal (length l.arguments) (absent_in_argument count l)

-- and the first line: so it is the first such number in the order of the text
unfoldable pub absent_in_line_at : List Line → ℕ → Verdict
absent_in_line_at g p = absent_in_line (length g) (get_or g p no_line)

unfoldable pub absent_names : List Line → Verdict
absent_names g = first_refusal (length g) (absent_in_line_at g)

-- ---- the same without a search

-- Argument i of line p names line q, which is not there.
pub record Names (g : List Line) (p i q : ℕ) : Type 0 where
  pub line : p < length g
  pub argument : i < length (get_or g p no_line).arguments
  pub absent : length g ≤ q
  pub number : q < production_limit
  pub named : get_or (get_or g p no_line).arguments i no_class (production_number q) ≡ true

-- The place is the number of the first line so named: none is named in an earlier line, in an earlier argument of the same line, or lower in the same class.
pub record FirstNamed (g : List Line) (place : ℕ) : Type 0 where
  pub p : ℕ
  pub i : ℕ
  pub q : ℕ
  pub names : Names g p i q
  pub is_place : place ≡ production_number q
  pub earlier : (p' i' q' : ℕ) → p' < p → Names g p' i' q' → ⊥
  pub before : (i' q' : ℕ) → i' < i → Names g p i' q' → ⊥
  pub lower : (q' : ℕ) → q' < q → Names g p i q' → ⊥
