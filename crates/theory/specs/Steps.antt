-- The equations of a chart: what an entry should be if the entries it rests on are right. They say nothing of the order in which a chart is filled.
use Rattle.std.specs.Prelude.{ℕ, ◌+◌, ◌-◌, ◌*◌, min, ◌≤◌, ◌<◌, ◌≡◌, Bool, true, ◌&&◌, List, eqb, length, get_or}
use Rattle.common.specs.Below.{sum_below, bit_of}
use Rattle.theory.specs.Counts.{Shown}
use Rattle.theory.specs.Grammar.{Grammar, Spells}
use Rattle.theory.specs.Tree.{Forest}

-- A chart: a number for each production p, count d of arguments, start i and end j.
abbrev pub Chart : Type 0
Chart = ℕ → ℕ → ℕ → ℕ → ℕ

-- 0, 1, or 2 for more
abbrev pub cap : ℕ → ℕ
cap n = min n 2

-- the character from m to j, if it is one, may stand as argument d of p
unfoldable pub char_entry : Grammar → List ℕ → ℕ → ℕ → ℕ → ℕ → ℕ
char_entry g w p d m j = bit_of (eqb (m + 1) j && g.chars p d (get_or w m 0))

-- how many trees may stand as argument d of p, from m to j
unfoldable pub argument_sum : Grammar → List ℕ → Chart → ℕ → ℕ → ℕ → ℕ → ℕ
argument_sum g w c p d m j = char_entry g w p d m j + sum_below g.count (λ q. bit_of (g.subs p d q) * c q (g.arity q) m j)

-- how many lists there are for one argument more: over all places between i and j
unfoldable pub split_sum : Grammar → List ℕ → Chart → ℕ → ℕ → ℕ → ℕ → ℕ
split_sum g w c p d i j = sum_below (j - i + 1) (λ k. c p d i (i + k) * argument_sum g w c p d (i + k) j)

-- Which productions are wanted at which start of the text: a chart need have their entries only.
abbrev pub Wanted : Type 0
Wanted = ℕ → ℕ → Bool

abbrev pub everything : Wanted
everything p i = true

-- Each production that may stand as argument d of p is wanted at m.
abbrev pub NextWanted : Grammar → Wanted → (p d m : ℕ) → Type 0
NextWanted g wanted p d m = (q : ℕ) → q < g.count → g.subs p d q ≡ true → wanted q m ≡ true

-- What is due next is wanted: at the place where a list of trees for the first d arguments of a wanted production ends, so is what may stand behind them.
pub record DueWanted (g : Grammar) (w : List ℕ) (wanted : Wanted) : Type 0 where
  pub due : (p d i m : ℕ) (f : Forest) → p < g.count → d < g.arity p → wanted p i ≡ true → Spells g w p f d i m → NextWanted g wanted p d m

-- Entries in range have their lists of trees.
pub record Sound (g : Grammar) (w : List ℕ) (c : Chart) : Type 0 where
  pub shown : (p d i j : ℕ) → p < g.count → d ≤ g.arity p → i ≤ j → j ≤ length w → Shown (λ (f : Forest). Spells g w p f d i j) (c p d i j)

-- No wanted entry in range is below what the entries that it rests on say.
pub record Closed (g : Grammar) (w : List ℕ) (wanted : Wanted) (c : Chart) : Type 0 where
  pub empty : (p i : ℕ) → p < g.count → i ≤ length w → wanted p i ≡ true → 1 ≤ c p 0 i i
  pub step : (p d i j : ℕ) → p < g.count → d < g.arity p → i ≤ j → j ≤ length w → wanted p i ≡ true → cap (split_sum g w c p d i j) ≤ c p (d + 1) i j

-- how many parses there are, if production p has v p trees for the whole text: over all productions allowed at the root
unfoldable pub root_sum : Grammar → (ℕ → Bool) → (ℕ → ℕ) → ℕ
root_sum g roots v = sum_below g.count (λ p. bit_of (roots p) * v p)
