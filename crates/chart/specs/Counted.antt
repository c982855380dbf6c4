-- What a filled chart holds (01, "Readings, listings and the chart"): for each production p, each count d of its arguments, each start i and end j,
-- how many lists of trees for its first d arguments spell that part of the text: 0, 1, or 2 for more. Where p is not wanted at i, the entry is 0.
use Rattle.std.specs.Prelude.{ℕ, ◌≤◌, ◌<◌, ◌≡◌, false, true, List, length}
use Rattle.chart.specs.Layout.{row_of, cell_at, entry_at}
use Rattle.theory.specs.Counts.{Counts}
use Rattle.theory.specs.Grammar.{Grammar, Spells}
use Rattle.theory.specs.Steps.{Wanted}
use Rattle.theory.specs.Tree.{Forest}

-- The entry in range for p, d, i and j.
unfoldable pub entry_of : (ℕ → ℕ) → ℕ → List ℕ → ℕ → ℕ → ℕ → ℕ → ℕ
entry_of arity n chart p d i j = entry_at chart (cell_at n (row_of arity p d) i j)

-- E p d i j says which lists of trees the entry counts, in a text of n characters.
pub record Counted (E : ℕ → ℕ → ℕ → ℕ → Forest → Type 0) (arity : ℕ → ℕ) (count n : ℕ) (wanted : Wanted) (chart : List ℕ) : Type 0 where
  pub counts : (p d i j : ℕ) → p < count → d ≤ arity p → i ≤ j → j ≤ n → wanted p i ≡ true → Counts (E p d i j) (entry_of arity n chart p d i j)
  pub unwanted : (p d i j : ℕ) → p < count → d ≤ arity p → i ≤ j → j ≤ n → wanted p i ≡ false → entry_of arity n chart p d i j ≡ 0

-- The same for the trees of a grammar that spell a text.
abbrev pub CountedBy : (g : Grammar) (w : List ℕ) → Wanted → (chart : List ℕ) → Type 0
CountedBy g w = Counted (λ (p d i j : ℕ) (f : Forest). Spells g w p f d i j) g.arity g.count (length w)
