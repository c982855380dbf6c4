-- The flat tables of a grammar.
use Rattle.std.specs.Prelude.{ℕ, ◌+◌, ◌-◌, ◌*◌, ◌/◌, ◌%◌, ◌<◌, Bool, false, ◌&&◌, List, ◌≡◌, ltb, eqb, length, get_or, take, drop}
use Rattle.charset.specs.Set.{characters, bit, has, word_bits}
use Rattle.classes.specs.Classes.{is_class, class_has}
use Rattle.flatten.specs.Flat.{may_stand}
use Rattle.layout.specs.Layout.{productions, start_sort, argument_count, result_sort, argument}
use Rattle.layout.specs.Limits.{production_limit, class_base, header_length, sort_limit}
use Rattle.priority.specs.Conflict.{right_or_nonassoc, left_or_nonassoc}
use Rattle.priority.specs.Priorities.{declarations_of, is_higher}
use Rattle.tables.specs.Layout.{production_words, slot, root_slot, counts_of, arity_in, takes_char, takes_production, ParserTables}
use Rattle.tables.specs.Put.{CountsPut}

-- ---- what the tables of a grammar say

-- The tables are those of grammar b: at each argument what the character class grammar has there, and at the root the productions of the start sort.
pub record FlatTables (b t : List ℕ) : Type 0 where
  pub readable : ParserTables t
  pub count_is : length (counts_of t) ≡ productions b
  pub counts_are : (p : ℕ) → p < productions b → arity_in (counts_of t) p ≡ argument_count b p
  pub chars_are : (p i c : ℕ) → p < productions b → i < argument_count b p → c < characters → takes_char t (slot p i) c ≡ (is_class b (argument b p i) && class_has b (argument b p i - class_base) c)
  pub productions_are : (p i q : ℕ) → p < productions b → i < argument_count b p → q < production_limit → takes_production t (slot p i) q ≡ (ltb q (productions b) && may_stand b p i q)
  pub root_chars : (c : ℕ) → c < characters → takes_char t root_slot c ≡ false
  pub roots_are : (q : ℕ) → q < production_limit → takes_production t root_slot q ≡ (ltb q (productions b) && eqb (result_sort b q) (start_sort b))

-- ---- while they are written

-- What code knows of production p's row of the priorities.
pub record BarringRows (b : List ℕ) (p : ℕ) (above firsts lasts : List Bool) : Type 0 where
  pub higher_row : (q : ℕ) → get_or above q false ≡ is_higher b p q
  pub first_row : (q : ℕ) → get_or firsts q false ≡ right_or_nonassoc (declarations_of b) p q
  pub last_row : (q : ℕ) → get_or lasts q false ≡ left_or_nonassoc (declarations_of b) p q

-- The same as sets of productions.
pub record BarringSets (b : List ℕ) (p : ℕ) (above firsts lasts : List ℕ) : Type 0 where
  pub higher_set : (q : ℕ) → q < production_limit → has above q ≡ is_higher b p q
  pub first_set : (q : ℕ) → q < production_limit → has firsts q ≡ right_or_nonassoc (declarations_of b) p q
  pub last_set : (q : ℕ) → q < production_limit → has lasts q ≡ left_or_nonassoc (declarations_of b) p q

-- Words that hold a set of productions for each sort.
abbrev pub result_words : ℕ
result_words = sort_limit * production_words

-- the set of sort x has production q; a class byte has none
unfoldable pub result_has : List ℕ → ℕ → ℕ → Bool
result_has sets x q = ltb x sort_limit && bit (get_or sets (x * production_words + q / word_bits) 0) (q % word_bits)

-- Of the first n productions each is in the set of its result, and in no other.
pub record ByResult (b : List ℕ) (n : ℕ) (sets : List ℕ) : Type 0 where
  pub long : length sets ≡ result_words
  pub are : (x q : ℕ) → x < sort_limit → q < production_limit → bit (get_or sets (x * production_words + q / word_bits) 0) (q % word_bits) ≡ (ltb q n && eqb (result_sort b q) x)

-- The argument counts of a grammar, with which its contents begin.
abbrev pub count_bytes : List ℕ → List ℕ
count_bytes b = take (productions b) (drop header_length b)

-- The class of argument i of production p.
pub record ArgumentWritten (b : List ℕ) (p i : ℕ) (t : List ℕ) : Type 0 where
  pub chars_are : (c : ℕ) → c < characters → takes_char t (slot p i) c ≡ (is_class b (argument b p i) && class_has b (argument b p i - class_base) c)
  pub productions_are : (q : ℕ) → q < production_limit → takes_production t (slot p i) q ≡ (ltb q (productions b) && may_stand b p i q)

-- The class of the root.
pub record RootWritten (b t : List ℕ) : Type 0 where
  pub chars_are : (c : ℕ) → c < characters → takes_char t root_slot c ≡ false
  pub productions_are : (q : ℕ) → q < production_limit → takes_production t root_slot q ≡ (ltb q (productions b) && eqb (result_sort b q) (start_sort b))

-- The counts, the class of the root, and the classes of the arguments whose slots are below s.
pub record WrittenBelow (b : List ℕ) (s : ℕ) (t : List ℕ) : Type 0 where
  pub counts : CountsPut (count_bytes b) (length (count_bytes b)) t
  pub root : RootWritten b t
  pub arguments : (p i : ℕ) → p < productions b → i < argument_count b p → slot p i < s → ArgumentWritten b p i t
