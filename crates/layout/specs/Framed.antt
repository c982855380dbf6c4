-- What holds of a grammar's bytes that refusals 1 to 4 let through.
use Rattle.std.specs.Prelude.{ℕ, ◌≤◌, ◌<◌, ◌≡◌, List, length}
use Rattle.layout.specs.Layout.{byte_at, sorts, productions, classes, start_sort, argument_count, range_count, needed_length}
use Rattle.layout.specs.Limits.{sort_limit, production_limit, class_limit, argument_limit, range_limit, header_length}

-- The frame stands: refusals 1 to 4 do not hold.
pub record Framed (b : List ℕ) : Type 0 where
  pub header : header_length ≤ length b
  pub some_sort : 1 ≤ sorts b
  pub few_sorts : sorts b ≤ sort_limit
  pub some_production : 1 ≤ productions b
  pub few_productions : productions b ≤ production_limit
  pub few_classes : classes b ≤ class_limit
  pub start_named : start_sort b < sorts b
  pub last_zero : byte_at b 5 ≡ 0
  pub few_arguments : (p : ℕ) → p < productions b → argument_count b p ≤ argument_limit
  pub few_ranges : (k : ℕ) → k < classes b → range_count b k ≤ range_limit
  pub length_is : length b ≡ needed_length b
