-- What the functions of the empty span promise one another.
use Rattle.std.specs.Prelude.{ℕ, ◌≤◌, ◌<◌, ◌≡◌, Bool, false, List, [], ◌≢◌, length, get_or}
use Rattle.chart.specs.Layout.{row_limit, row_of}
use Rattle.tables.specs.Layout.{arity_in}
use Rattle.span.specs.Span.{Span}
use Rattle.span.specs.Tables.{span_of, Exact}

-- The empty span: nothing is inside it, and no character spells it.
abbrev pub empty_span : (counts users : List ℕ) → Span
empty_span counts users = span_of counts users [] [] [] (λ (r : ℕ). 0)

-- the row of a production with no argument
abbrev pub first_row : List ℕ → ℕ → ℕ
first_row counts p = row_of (arity_in counts) p 0

-- Of the first n productions the row with no argument has a 1, every other row a 0; the arguments say so.
pub record Begun (counts users : List ℕ) (n : ℕ) (args cells : List ℕ) : Type 0 where
  pub args_long : length args ≡ row_limit
  pub cells_long : length cells ≡ row_limit
  pub small : (r : ℕ) → get_or cells r 0 ≤ 1
  pub firsts : (p : ℕ) → p < n → get_or cells (first_row counts p) 0 ≡ 1
  pub rest : (r : ℕ) → ((p : ℕ) → p < n → r ≢ first_row counts p) → get_or cells r 0 ≡ 0
  pub agree : Exact (empty_span counts users) cells args

-- The arguments were taken up; `changed` says whether they were others before.
pub record Followed (before args after : List ℕ) (changed : Bool) : Type 0 where
  pub taken : after ≡ args
  pub stayed : changed ≡ false → before ≡ args
  pub still : before ≡ args → changed ≡ false
