-- Lists of zeros.
use Rattle.std.specs.Prelude.{ℕ, ◌≡◌, List, length, get_or}

-- n zeros
pub record AllZero (n : ℕ) (l : List ℕ) : Type 0 where
  pub long : length l ≡ n
  pub zeros : (k : ℕ) → get_or l k 0 ≡ 0
