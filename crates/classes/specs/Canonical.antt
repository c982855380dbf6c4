-- One byte for all the argument bytes that are the same argument (02, [5]): how the check compares sets of characters once, and bytes after that.
use Rattle.std.specs.Prelude.{ℕ, ◌+◌, ◌-◌, ◌*◌, ◌≤◌, ◌<◌, ◌≡◌, Bool, true, List, eqb, length, get_or}
use Rattle.charset.specs.Set.{characters, set_words, has, same_set}
use Rattle.charset.specs.Sought.{Sought}
use Rattle.classes.specs.Classes.{class_has, same_argument}
use Rattle.common.specs.Bytes.{byte_values}
use Rattle.layout.specs.Limits.{class_limit}

-- Character c is in set k of the sets that the words hold, one behind the other.
abbrev pub set_has : List ℕ → ℕ → ℕ → Bool
set_has words k c = has words (characters * k + c)

-- The words have room for a set for each class, and those below n are the characters of the first n classes.
pub record SetsHeld (b : List ℕ) (n : ℕ) (words : List ℕ) : Type 0 where
  pub long : length words ≡ class_limit * set_words
  pub held : (k c : ℕ) → k < n → c < characters → set_has words k c ≡ class_has b k c

-- Set r is the lowest that is the same as set k: one before it, or k itself.
abbrev pub LowestSame : List ℕ → ℕ → ℕ → Type 0
LowestSame words k r = Sought k (λ j. same_set (set_has words k) (set_has words j)) true 0 r

-- What stands for argument byte x. The table says how far below x that is, so 0 of a byte that stands for itself.
unfoldable pub stands_for : List ℕ → ℕ → ℕ
stands_for table x = x - get_or table x 0

-- The same byte stands for two argument bytes exactly if they are the same argument.
pub record Canonical (b table : List ℕ) : Type 0 where
  pub long : length table ≡ byte_values
  pub small : (x : ℕ) → get_or table x 0 ≤ x
  pub decides : (x y : ℕ) → x < byte_values → y < byte_values → eqb (stands_for table x) (stands_for table y) ≡ same_argument b x y
