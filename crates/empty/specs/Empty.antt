-- The empty span: its cells are the same at every place of every text.
use Rattle.std.specs.Prelude.{ℕ, ◌+◌, ◌*◌, ◌≤◌, ◌<◌, ◌≡◌, List, length, get_or}
use Rattle.chart.specs.Layout.{row_of}
use Rattle.common.specs.Below.{sum_below, bit_of}
use Rattle.theory.specs.Counts.{Shown}
use Rattle.theory.specs.Grammar.{Grammar, Spells}
use Rattle.theory.specs.Steps.{cap}
use Rattle.theory.specs.Tree.{Forest}

-- `empty` counts, for each row, the lists of trees for an empty part of any text; `args` has the sum of the trees that may stand there as the next argument.
pub record EmptyRight (g : Grammar) (empty args : List ℕ) : Type 0 where
  pub small : (r : ℕ) → get_or empty r 0 ≤ 2
  -- with no argument there is the empty list
  pub begins : (p : ℕ) → p < g.count → get_or empty (row_of g.arity p 0) 0 ≡ 1
  pub shown : (w : List ℕ) (p d i : ℕ) → p < g.count → d ≤ g.arity p → i ≤ length w → Shown (λ (f : Forest). Spells g w p f d i i) (get_or empty (row_of g.arity p d) 0)
  pub closed : (p d : ℕ) → p < g.count → d < g.arity p
      → cap (get_or empty (row_of g.arity p d) 0 * get_or args (row_of g.arity p d) 0) ≤ get_or empty (row_of g.arity p (d + 1)) 0
  pub sums : (p d : ℕ) → p < g.count → d < g.arity p
      → get_or args (row_of g.arity p d) 0 ≡ sum_below g.count (λ q. bit_of (g.subs p d q) * get_or empty (row_of g.arity q (g.arity q)) 0)
