-- What is prepared once for the flat tables and serves every text: five parts of one list of bytes.
use Rattle.std.specs.Prelude.{ℕ, ◌+◌, ◌-◌, ◌≡◌, List, length, take, drop}
use Rattle.chart.specs.Layout.{row_limit}
use Rattle.layout.specs.Limits.{production_limit}
use Rattle.empty.specs.Empty.{EmptyRight}
use Rattle.span.specs.Tables.{user_bytes, use_bytes, Links, UsersAre}
use Rattle.tables.specs.Layout.{slot, counts_of, takes_production}
use Rattle.tables.specs.Theory.{theory_of}

-- where the parts stand, the users first
abbrev pub uses_at : ℕ
uses_at = user_bytes

abbrev pub counts_at : ℕ
counts_at = uses_at + use_bytes

abbrev pub empty_at : ℕ
empty_at = counts_at + production_limit

abbrev pub back_at : ℕ
back_at = empty_at + row_limit

abbrev pub prepared_bytes : ℕ
prepared_bytes = back_at + row_limit

-- which rows take a production
abbrev pub users_in : List ℕ → List ℕ
users_in b = take uses_at b

-- which productions have such a row
abbrev pub uses_in : List ℕ → List ℕ
uses_in b = take (counts_at - uses_at) (drop uses_at b)

-- the argument counts of the first n productions
abbrev pub counts_in : ℕ → List ℕ → List ℕ
counts_in n b = take (counts_at + n - counts_at) (drop counts_at b)

-- the cells of the empty span
abbrev pub empty_in : List ℕ → List ℕ
empty_in b = take (back_at - empty_at) (drop empty_at b)

-- the arguments behind them
abbrev pub back_in : List ℕ → List ℕ
back_in b = take (prepared_bytes - back_at) (drop back_at b)

-- The users and uses are those of the tables t.
pub record Linked (t b : List ℕ) : Type 0 where
  pub long : length b ≡ prepared_bytes
  pub links : Links (counts_of t) (users_in b) (uses_in b)
  pub users : UsersAre (counts_of t) (users_in b) (λ p d q. takes_production t (slot p d) q)

-- So are the argument counts and the empty span.
pub record Prepared (t b : List ℕ) : Type 0 where
  pub linked : Linked t b
  pub counts : counts_in (length (counts_of t)) b ≡ counts_of t
  pub empty : EmptyRight (theory_of t) (empty_in b) (back_in b)
