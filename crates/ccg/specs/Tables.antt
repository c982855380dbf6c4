-- The character class grammar that tables hold.
use Rattle.std.specs.Prelude.{ℕ, ◌-◌, Bool, cond, ◌&&◌, List, leb, ltb, length}
use Rattle.ccg.specs.Ccg.{Line}
use Rattle.charset.specs.Set.{characters}
use Rattle.common.specs.Lists.{tabulate}
use Rattle.layout.specs.Limits.{production_limit}
use Rattle.tables.specs.Layout.{slot, counts_of, arity_in, takes_char, takes_production}
use Rattle.theory.specs.Tree.{production_number}

-- the production with number n may stand at slot s
unfoldable pub takes_number : List ℕ → ℕ → ℕ → Bool
takes_number t s n = takes_production t s (n - production_number 0)

-- the class of a slot: its characters, and the numbers of its productions
unfoldable pub table_class : List ℕ → ℕ → ℕ → Bool
table_class t s n =
    cond (ltb n characters) (takes_char t s n) (leb (production_number 0) n && (ltb n (production_number production_limit) && takes_production t s (n - production_number 0)))

-- the line of production p
unfoldable pub table_line : List ℕ → ℕ → Line
table_line t p = record { arguments = tabulate (arity_in (counts_of t) p) (λ i. table_class t (slot p i)); result = production_number p }

unfoldable pub table_grammar : List ℕ → List Line
table_grammar t = tabulate (length (counts_of t)) (table_line t)
