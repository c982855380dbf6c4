-- The table of refusals 1 to 9 as conditions (01, "Refused because of the input"): when a number with a place may be given, and which of several comes first.
use Rattle.std.specs.Prelude.{ℕ, ◌+◌, min, ◌≤◌, ◌<◌, false, true, List, ◌≡◌, length}
use Rattle.grammar.specs.Check.{outside, names_argument, is_group, same_production}
use Rattle.layout.specs.Layout.{byte_at, sorts, productions, classes, declarations, start_sort, argument_count_at, range_count_at, argument_count, range_count, bodies_at, production_at, argument_at, result_sort, argument, declaration_at, kind, first, second, needed_length}
use Rattle.layout.specs.Limits.{sort_limit, production_limit, class_limit, argument_limit, range_limit, kind_limit, header_length}
use Rattle.priority.specs.Priorities.{Higher}

-- Header byte k is outside its range.
pub data BadHeaderByte (b : List ℕ) : ℕ → Type 0 where
  bad_sorts : outside 1 sort_limit (sorts b) ≡ true → BadHeaderByte b 0
  bad_production_count : outside 1 production_limit (productions b) ≡ true → BadHeaderByte b 1
  bad_class_count : class_limit < classes b → BadHeaderByte b 2
  bad_start : sorts b ≤ start_sort b → BadHeaderByte b 4
  bad_last : 0 < byte_at b 5 → BadHeaderByte b 5

-- Byte k is an argument count or a range count, and too large.
pub data LargeCount (b : List ℕ) : ℕ → Type 0 where
  many_arguments : (p : ℕ) → p < productions b → argument_limit < argument_count b p → LargeCount b (argument_count_at b p)
  many_ranges : (k : ℕ) → k < classes b → range_limit < range_count b k → LargeCount b (range_count_at b k)

-- Byte k is a result or argument byte that names nothing.
pub data NamesNothing (b : List ℕ) : ℕ → Type 0 where
  no_result : (p : ℕ) → p < productions b → sorts b ≤ result_sort b p → NamesNothing b (production_at b p)
  no_argument : (p i : ℕ) → p < productions b → i < argument_count b p → names_argument b (argument b p i) ≡ false → NamesNothing b (argument_at b p i)

-- Byte k is a kind that is not 1 to 7, or names a production that isn't there, or the first of a group that is above its second.
pub data BadDeclarationByte (b : List ℕ) : ℕ → Type 0 where
  bad_kind : (d : ℕ) → d < declarations b → outside 1 kind_limit (kind b d) ≡ true → BadDeclarationByte b (declaration_at b d)
  bad_first : (d : ℕ) → d < declarations b → productions b ≤ first b d → BadDeclarationByte b (declaration_at b d + 1)
  bad_second : (d : ℕ) → d < declarations b → productions b ≤ second b d → BadDeclarationByte b (declaration_at b d + 2)
  bad_group : (d : ℕ) → d < declarations b → is_group (kind b d) ≡ true → second b d < first b d → BadDeclarationByte b (declaration_at b d + 1)

-- Production p is equal to an earlier one.
pub record EqualsEarlier (b : List ℕ) (p : ℕ) : Type 0 where
  pub there : p < productions b
  pub earlier : ℕ
  pub is_earlier : earlier < p
  pub same : same_production b p earlier ≡ true

-- Production p is higher than itself.
pub record OnCircle (b : List ℕ) (p : ℕ) : Type 0 where
  pub there : p < productions b
  pub circle : Higher b p p

-- A line each: the refusal with this number and this place may be given at this stage of the check.
-- The stages are in 01's order: 1 (first half), 2, 1 (second half), 3, 4, then 5 and 7 as the bytes come, 8, 9. There is no refusal 6 (02, [3]).
pub data Holds (b : List ℕ) : (stage number place : ℕ) → Type 0 where
  refusal1 : length b < header_length → Holds b 0 1 (length b)
  refusal2 : {k : ℕ} → BadHeaderByte b k → Holds b 1 2 k
  refusal1' : length b < bodies_at b → Holds b 2 1 (length b)
  refusal3 : {k : ℕ} → LargeCount b k → Holds b 3 3 k
  refusal4 : (length b ≡ needed_length b → ⊥) → Holds b 4 4 (min (length b) (needed_length b))
  refusal5 : {k : ℕ} → NamesNothing b k → Holds b 5 5 k
  refusal7 : {k : ℕ} → BadDeclarationByte b k → Holds b 5 7 k
  refusal8 : {p : ℕ} → EqualsEarlier b p → Holds b 6 8 (production_at b p)
  refusal9 : {p : ℕ} → OnCircle b p → Holds b 7 9 p

-- The refusal with this number and this place is the first of the table: no condition of an earlier stage holds, and none of its own at a lower place.
pub record First (b : List ℕ) (number place : ℕ) : Type 0 where
  pub stage : ℕ
  pub holds : Holds b stage number place
  pub earlier : (s n k : ℕ) → s < stage → Holds b s n k → ⊥
  pub lower : (n k : ℕ) → k < place → Holds b stage n k → ⊥
