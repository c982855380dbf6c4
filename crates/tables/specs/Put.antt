-- What writing a class, or what is known of a production, changes in the tables.
use Rattle.std.specs.Prelude.{ℕ, ◌+◌, ◌<◌, ◌≤◌, ◌≡◌, Bool, ◌&&◌, ◌||◌, List, eqb, length, get_or}
use Rattle.charset.specs.Set.{characters}
use Rattle.layout.specs.Limits.{production_limit}
use Rattle.tables.specs.Layout.{slots, counts_at, rows_at, classes_at, class_bits, class_bit, slot_at, class_words, table_words, count_of, arity_in, row_count, takes_char, takes_production}

-- The count of productions was written, the first n argument counts, and the rows that follow from these.
pub record CountsPut (counts : List ℕ) (n : ℕ) (t : List ℕ) : Type 0 where
  pub long : length t ≡ table_words
  pub count_is : count_of t ≡ length counts
  pub counts_are : (p : ℕ) → p < n → get_or t (counts_at + p) 0 ≡ get_or counts p 0
  pub rows_are : (p : ℕ) → p ≤ n → get_or t (rows_at + p) 0 ≡ row_count (arity_in counts) p

-- No class was changed.
abbrev pub ClassesKept : (t₀ t : List ℕ) → Type 0
ClassesKept t₀ t = (k : ℕ) → classes_at ≤ k → get_or t k 0 ≡ get_or t₀ k 0

-- The class of slot s has x as well, and nothing else was changed in any.
pub record MemberAdded (s x : ℕ) (t₀ t : List ℕ) : Type 0 where
  pub long : length t ≡ length t₀
  pub members : (q y : ℕ) → q ≤ slots → y < class_bits → class_bit t q y ≡ (class_bit t₀ q y || (eqb q s && eqb y x))

-- The class of slot s was written, and nothing else was changed.
pub record ClassPut (s : ℕ) (chars productions : ℕ → Bool) (t₀ t : List ℕ) : Type 0 where
  pub long : length t ≡ length t₀
  pub chars_are : (c : ℕ) → c < characters → takes_char t s c ≡ chars c
  pub productions_are : (q : ℕ) → q < production_limit → takes_production t s q ≡ productions q
  pub below : (k : ℕ) → k < slot_at s → get_or t k 0 ≡ get_or t₀ k 0
  pub above : (k : ℕ) → slot_at s + class_words ≤ k → get_or t k 0 ≡ get_or t₀ k 0
