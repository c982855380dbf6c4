-- Rows of the tables.
use Prim.Native.Nat.{ℕ, ◌≤◌, ◌<◌}
use mathlib.Core.List.{List}
use lib.ListN.{length}
use Rattle.chart.proofs.LayoutLaws.{row_below}
use Rattle.chart.specs.Layout.{row_limit, row_of}
use Rattle.tables.specs.Layout.{arity_in}
use Rattle.span.specs.Tables.{Links}

-- the rows of a production are among all rows
pub row_room : {counts users uses : List ℕ} → Links counts users uses → (p d : ℕ) → p < length counts → d ≤ arity_in counts p → row_of (arity_in counts) p d < row_limit
row_room {counts} links p d l h = row_below counts p d links.few_productions links.few_arguments l h
