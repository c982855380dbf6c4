-- The flat tables: a character class grammar (01's flat book) as words, which code reads through one slice.
-- First how many productions there are; then for each how many arguments it has; for each its first row; and a class for each slot.
use Rattle.std.specs.Prelude.{ℕ, ◌+◌, ◌*◌, ◌/◌, ◌%◌, ◌^◌, ◌≤◌, ◌≡◌, Bool, List, length, get_or, take, drop}
use Rattle.charset.specs.Set.{bit, word_bits, set_words}
use Rattle.common.specs.Below.{sum_below}
use Rattle.layout.specs.Limits.{production_limit, argument_limit}

-- ---- slots

-- the slot of argument i of production p: its place among all arguments that there may be
unfoldable pub slot : ℕ → ℕ → ℕ
slot p i = p * argument_limit + i

-- how many slots of arguments there are
abbrev pub slots : ℕ
slots = production_limit * argument_limit

-- the slot of the root stands behind them
abbrev pub root_slot : ℕ
root_slot = slots

-- ---- where the words stand

-- the argument counts
abbrev pub counts_at : ℕ
counts_at = 1

-- the first rows, with one more that is the count of all rows
abbrev pub rows_at : ℕ
rows_at = counts_at + production_limit

-- the classes
abbrev pub classes_at : ℕ
classes_at = rows_at + production_limit + 1

-- a class has the words of its characters, and then a bit for each production
abbrev pub production_words : ℕ
production_words = production_limit / word_bits

abbrev pub class_words : ℕ
class_words = set_words + production_words

-- the first word of a slot's class
unfoldable pub slot_at : ℕ → ℕ
slot_at s = classes_at + s * class_words

abbrev pub table_words : ℕ
table_words = classes_at + (slots + 1) * class_words

-- ---- what they say

-- how many productions there are
abbrev pub count_of : List ℕ → ℕ
count_of t = get_or t 0 0

-- how many arguments each of them has
unfoldable pub counts_of : List ℕ → List ℕ
counts_of t = take (count_of t) (drop counts_at t)

-- how many arguments production p has, if `counts` has a number for each production
abbrev pub arity_in : List ℕ → ℕ → ℕ
arity_in counts p = get_or counts p 0

-- A row is a production with a count of its arguments, from 0 to all. How many rows the first n productions have: 01's A, for all of them.
unfoldable pub row_count : (ℕ → ℕ) → ℕ → ℕ
row_count arity n = sum_below n (λ q. arity q + 1)

-- bit x of the class of slot s: of a character, or behind all of these of a production
abbrev pub class_bits : ℕ
class_bits = class_words * word_bits

unfoldable pub class_bit : List ℕ → ℕ → ℕ → Bool
class_bit t s x = bit (get_or t (slot_at s + x / word_bits) 0) (x % word_bits)

-- character c may stand at slot s
unfoldable pub takes_char : List ℕ → ℕ → ℕ → Bool
takes_char t s c = bit (get_or t (slot_at s + c / word_bits) 0) (c % word_bits)

-- production q may stand at slot s
unfoldable pub takes_production : List ℕ → ℕ → ℕ → Bool
takes_production t s q = bit (get_or t (slot_at s + set_words + q / word_bits) 0) (q % word_bits)

-- how many octets of eight productions there are
abbrev pub octet_bits : ℕ
octet_bits = 8

abbrev pub production_octets : ℕ
production_octets = production_limit / octet_bits

-- octet k of the productions that may stand at slot s
unfoldable pub production_octet : List ℕ → ℕ → ℕ → ℕ
production_octet t s k = get_or t (slot_at s + set_words + k * octet_bits / word_bits) 0 / 2 ^ (k * octet_bits % word_bits) % 2 ^ octet_bits

-- Tables that a parser can read: of the right length, within the limits, with the right rows.
pub record ParserTables (t : List ℕ) : Type 0 where
  pub long : length t ≡ table_words
  pub few_productions : count_of t ≤ production_limit
  pub few_arguments : (p : ℕ) → arity_in (counts_of t) p ≤ argument_limit
  pub rows : (p : ℕ) → p ≤ count_of t → get_or t (rows_at + p) 0 ≡ row_count (arity_in (counts_of t)) p
