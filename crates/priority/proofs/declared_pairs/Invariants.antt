-- `declared_pairs` meets its contract: the table holds the pairs of the declarations passed.
use Prim.Native.Nat.{ℕ}
use mathlib.Core.Bool.{Bool, ◌||◌}
use mathlib.Core.List.{List}
use mathlib.Core.Path.{◌≡◌}
use Rattle.common.specs.Lists.{tabulate}
use Rattle.layout.specs.Limits.{production_limit}
use Rattle.priority.specs.Chain.{entry, Square}
use Rattle.priority.specs.Priorities.{Kind, kind_number, declared_in, declaration_of}
use Rattle.priority.proofs.declared_pairs.Given as goal

-- the first d declarations are taken up, of these two kinds
pub record Taken (b : List ℕ) (kind also d : ℕ) (table : List (List Bool)) : Type 0 where
  pub square : Square production_limit table
  pub pairs : (k k' : Kind) → kind ≡ kind_number k → also ≡ kind_number k' → (x y : ℕ)
      → entry table x y ≡ (declared_in (tabulate d (declaration_of b)) k x y || declared_in (tabulate d (declaration_of b)) k' x y)

abbrev pub invariant-loop-d : goal.invariant-loop-d
invariant-loop-d l = Taken l.book l.kind l.also l.d l.table
