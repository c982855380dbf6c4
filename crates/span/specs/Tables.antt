-- A span as the tables that the code has, and what its functions promise of them.
use Rattle.std.specs.Prelude.{ℕ, zero, suc, ◌+◌, ◌*◌, max, ◌≤◌, ◌<◌, ◌≡◌, Bool, false, List, length, get_or, set}
use Rattle.chart.specs.Layout.{row_limit, row_of}
use Rattle.tables.specs.Layout.{arity_in, row_count}
use Rattle.common.specs.Below.{bit_of}
use Rattle.layout.specs.Limits.{production_limit, argument_limit}
use Rattle.span.specs.Span.{Span, argument_of, ClosedAt, Raised, spare}
use Rattle.theory.specs.Steps.{cap}

-- ---- the tables

-- a row of users to a production, a row of uses to a production
unfoldable pub user_at : ℕ → ℕ → ℕ
user_at q r = q * row_limit + r

unfoldable pub use_at : ℕ → ℕ → ℕ
use_at q p = q * production_limit + p

abbrev pub user_bytes : ℕ
user_bytes = production_limit * row_limit

abbrev pub use_bytes : ℕ
use_bytes = production_limit * production_limit

unfoldable pub span_of : (counts users inner front back : List ℕ) → (ℕ → ℕ) → Span
span_of counts users inner front back bare =
    record {
      count = length counts;
      arity = arity_in counts;
      users = λ q r. get_or users (user_at q r) 0;
      bare = bare;
      inner = λ r. get_or inner r 0;
      front = λ r. get_or front r 0;
      back = λ r. get_or back r 0;
    }

-- The tables of a grammar: which rows take a production, and which productions have such a row.
pub record Links (counts users uses : List ℕ) : Type 0 where
  pub few_productions : length counts ≤ production_limit
  pub few_arguments : (p : ℕ) → arity_in counts p ≤ argument_limit
  pub users_long : length users ≡ user_bytes
  pub uses_long : length uses ≡ use_bytes
  pub bits : (k : ℕ) → get_or users k 0 ≤ 1
  -- a production that is not said to use q has no row that takes it
  pub unused : (q p d : ℕ) → q < length counts → p < length counts → d < arity_in counts p → get_or uses (use_at q p) 0 ≡ 0 → get_or users (user_at q (row_of (arity_in counts) p d)) 0 ≡ 0
  -- beyond the rows nothing takes a production
  pub outside : (q r : ℕ) → q < length counts → row_count (arity_in counts) (length counts) ≤ r → r < row_limit → get_or users (user_at q r) 0 ≡ 0

-- `users` has a 1 for each production that may stand as the next argument of a row, by the test `subs`.
pub record UsersAre (counts users : List ℕ) (subs : ℕ → ℕ → ℕ → Bool) : Type 0 where
  pub takes : (p d q : ℕ) → p < length counts → d < arity_in counts p → q < length counts
      → get_or users (user_at q (row_of (arity_in counts) p d)) 0 ≡ bit_of (subs p d q)

-- Each has an entry for each row.
pub record Loads (inner front back args cells : List ℕ) : Type 0 where
  pub inner_long : length inner ≡ row_limit
  pub front_long : length front ≡ row_limit
  pub back_long : length back ≡ row_limit
  pub args_long : length args ≡ row_limit
  pub cells_long : length cells ≡ row_limit

-- `args` has for each row what the cells x say.
pub record Exact (s : Span) (x args : List ℕ) : Type 0 where
  pub exact : (r : ℕ) → r < row_limit → get_or args r 0 ≡ argument_of s x r

-- Cells and arguments are small and agree: no sum can overflow.
pub record Founded (counts users inner front back args cells : List ℕ) : Type 0 where
  pub bare : ℕ → ℕ
  pub little : (r : ℕ) → bare r ≤ 1
  pub small : (r : ℕ) → get_or cells r 0 ≤ 2
  pub agree : Exact (span_of counts users inner front back bare) cells args

-- ---- what the functions promise

-- what the equation gives for the cell of the row after r, with the arguments that the list has
unfoldable pub step_in : (inner front back args : List ℕ) → List ℕ → ℕ → ℕ
step_in inner front back args x r = cap (get_or inner r 0 + get_or front r 0 * get_or args r 0 + get_or x r 0 * get_or back r 0)

-- that cell is raised to it
unfoldable pub raised_at : (inner front back args : List ℕ) → List ℕ → ℕ → List ℕ
raised_at inner front back args x r = set x (r + 1) (max (get_or x (r + 1) 0) (step_in inner front back args x r))

-- the cells of one production are, from its first row on, for its first d arguments
unfoldable pub advanced : (inner front back args : List ℕ) → ℕ → ℕ → List ℕ → List ℕ
advanced inner front back args base zero x = x
advanced inner front back args base (suc d) x = raised_at inner front back args (advanced inner front back args base d x) (base + d)

-- Every production that is not pending is closed.
pub record Resting (s : Span) (pending x : List ℕ) : Type 0 where
  pub rest : (p : ℕ) → p < s.count → get_or pending p 0 ≡ 0 → ClosedAt s x p

-- The productions from `from` on and before `to` were looked at: the cells came about by raising, and the arguments say what they say.
-- If a count rose there is less to spare; otherwise those productions are no longer pending, and no other became so.
pub record Visited (s : Span) (from to : ℕ) (pending args x pending' args' x' : List ℕ) (rose : Bool) : Type 0 where
  pub small : (r : ℕ) → get_or x' r 0 ≤ 2
  pub agree : Exact s x' args'
  pub came : Raised s x x'
  pub rests : Resting s pending x → Resting s pending' x'
  pub less : bit_of rose + spare s x' ≤ spare s x
  pub calm : rose ≡ false → (p : ℕ) → get_or pending' p 0 ≤ get_or pending p 0
  pub done : rose ≡ false → (p : ℕ) → from ≤ p → p < to → get_or pending' p 0 ≡ 0

-- The span is settled: every production is closed.
pub record Settled (s : Span) (x args' x' : List ℕ) : Type 0 where
  pub agree : Exact s x' args'
  pub came : Raised s x x'
  pub closed_all : (p : ℕ) → p < s.count → ClosedAt s x' p
