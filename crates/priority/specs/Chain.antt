-- Chains of a relation between productions (01, "Ranks and clashes": "higher" is closed), and an executable test for them.
use Rattle.std.specs.Prelude.{ℕ, zero, suc, ◌<◌, ◌≡◌, Bool, false, true, ◌&&◌, ◌||◌, List, [], length, get_or}

-- A chain of any length from x to y, each link a pair of the relation.
pub data Chain (r : ℕ → ℕ → Bool) : ℕ → ℕ → Type 0 where
  link : {x y : ℕ} → r x y ≡ true → Chain r x y
  more : {x y z : ℕ} → Chain r x y → r y z ≡ true → Chain r x z

-- The executable twin: there is a chain from x to y all of whose inner members are below n.
unfoldable pub through : (ℕ → ℕ → Bool) → ℕ → ℕ → ℕ → Bool
through r zero x y = r x y
through r (suc n) x y = through r n x y || through r n x n && through r n n y

-- Row x, column y of a table of yes-or-no entries; what lies outside is no.
unfoldable pub entry : List (List Bool) → ℕ → ℕ → Bool
entry table x y = get_or (get_or table x []) y false

-- A table of n rows of n entries.
pub record Square (n : ℕ) (table : List (List Bool)) : Type 0 where
  pub rows : length table ≡ n
  pub columns : (x : ℕ) → x < n → length (get_or table x []) ≡ n
