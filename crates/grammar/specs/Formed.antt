-- What holds of a grammar's bytes that refusals 1 to 8 let through.
use Rattle.std.specs.Prelude.{ℕ, ◌≤◌, ◌<◌, ◌≡◌, false, true, List}
use Rattle.grammar.specs.Check.{names_argument, is_group, same_production}
use Rattle.layout.specs.Framed.{Framed}
use Rattle.layout.specs.Layout.{sorts, productions, declarations, argument_count, result_sort, argument, kind, first, second}
use Rattle.layout.specs.Limits.{kind_limit}

-- All bytes are as they should be: refusals 1 to 8 do not hold.
pub record WellFormed (b : List ℕ) : Type 0 where
  pub framed : Framed b
  pub result_named : (p : ℕ) → p < productions b → result_sort b p < sorts b
  pub argument_named : (p i : ℕ) → p < productions b → i < argument_count b p → names_argument b (argument b p i) ≡ true
  pub some_kind : (d : ℕ) → d < declarations b → 1 ≤ kind b d
  pub few_kinds : (d : ℕ) → d < declarations b → kind b d ≤ kind_limit
  pub first_there : (d : ℕ) → d < declarations b → first b d < productions b
  pub second_there : (d : ℕ) → d < declarations b → second b d < productions b
  pub groups_rise : (d : ℕ) → d < declarations b → is_group (kind b d) ≡ true → first b d ≤ second b d
  pub different : (p q : ℕ) → p < productions b → q < p → same_production b p q ≡ false
