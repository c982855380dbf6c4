-- The tables of users and uses while they are written: the classes of the flat tables, turned round an octet of productions at a time.
use Rattle.std.specs.Prelude.{ℕ, ◌+◌, ◌*◌, max, ◌≤◌, ◌<◌, ◌≡◌, true, List, length, get_or}
use Rattle.charset.specs.Set.{bit}
use Rattle.common.specs.Below.{bit_of}
use Rattle.layout.specs.Limits.{production_limit}
use Rattle.tables.specs.Layout.{slot, takes_production, arity_in, row_count, production_octet}
use Rattle.chart.specs.Layout.{row_limit, row_of}
use Rattle.span.specs.Tables.{user_at, use_at, user_bytes, use_bytes}

-- v has every production of octet k that one of the first n arguments of production p takes.
pub record Joined (tables : List ℕ) (p k n v : ℕ) : Type 0 where
  pub all : (d b : ℕ) → d < n → bit (production_octet tables (slot p d) k) b ≡ true → bit v b ≡ true

-- The entries of the first n productions have every production of octet k that an argument takes.
pub record UsedOctets (counts tables : List ℕ) (k n : ℕ) (l : List ℕ) : Type 0 where
  pub long : length l ≡ production_limit
  pub here : (p : ℕ) → p < n → Joined tables p k (arity_in counts p) (get_or l p 0)

-- The first n bits of the octets are rows of a table, from row `from` on; the rows before it stay.
pub record BitsTurned (octets : List ℕ) (from n : ℕ) (out out' : List ℕ) : Type 0 where
  pub long : length out' ≡ length out
  pub bits : (i : ℕ) → get_or out' i 0 ≤ max 1 (get_or out i 0)
  pub turned : (b r : ℕ) → b < n → r < length octets → get_or out' ((from + b) * length octets + r) 0 ≡ bit_of (bit (get_or octets r 0) b)
  pub before : (i : ℕ) → i < from * length octets → get_or out' i 0 ≡ get_or out i 0

-- Which rows take each of the first n productions.
pub record UsersTo (counts tables : List ℕ) (n : ℕ) (users : List ℕ) : Type 0 where
  pub long : length users ≡ user_bytes
  pub bits : (i : ℕ) → get_or users i 0 ≤ 1
  pub takes : (p d q : ℕ) → p < length counts → d < arity_in counts p → q < n → get_or users (user_at q (row_of (arity_in counts) p d)) 0 ≡ bit_of (takes_production tables (slot p d) q)
  -- beyond the rows nothing takes it
  pub outside : (q r : ℕ) → q < n → row_count (arity_in counts) (length counts) ≤ r → r < row_limit → get_or users (user_at q r) 0 ≡ 0

-- Which productions have a row that takes each of the first n.
pub record UsesTo (counts tables : List ℕ) (n : ℕ) (uses : List ℕ) : Type 0 where
  pub long : length uses ≡ use_bytes
  pub used : (p d q : ℕ) → p < length counts → d < arity_in counts p → q < n → takes_production tables (slot p d) q ≡ true → get_or uses (use_at q p) 0 ≡ 1
