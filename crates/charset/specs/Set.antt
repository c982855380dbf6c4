-- Sets of bytes, and ranges of characters (01, "The book"; 000, Definition 3.1).
use Rattle.std.specs.Prelude.{ℕ, ◌/◌, ◌%◌, ◌^◌, min, max, Bool, List, eqb, get_or}
use Rattle.std.specs.Bool.{beq}
use Rattle.common.specs.Below.{all_below, between}

-- How many characters there are: they are bytes.
abbrev pub characters : ℕ
characters = 256

-- How many bits a word has.
abbrev pub word_bits : ℕ
word_bits = 64

-- How many words hold a set of characters, a bit to a character.
abbrev pub set_words : ℕ
set_words = characters / word_bits

-- Bit b of a word, the lowest is bit 0.
unfoldable pub bit : ℕ → ℕ → Bool
bit word b = eqb (word / 2 ^ b % 2) 1

-- Byte c is in the set that the words hold: each has the bits of the bytes behind those of the word before.
unfoldable pub has : List ℕ → ℕ → Bool
has words c = bit (get_or words (c / word_bits) 0) (c % word_bits)

-- Character c is in the rising range from low to high, ends included: the ranges of a normal form are such.
unfoldable pub in_range : ℕ → ℕ → ℕ → Bool
in_range = between

-- Character c is in the range that a grammar writes as low and high. With low above high it means the characters of the range turned round (02, [3]).
-- Every test of a character against a written range is this one.
unfoldable pub spans : ℕ → ℕ → ℕ → Bool
spans low high = in_range (min low high) (max low high)

-- Two sets of characters, given by their tests, are the same: no character is in one of them alone. Two sets with no character are (02, [5]).
unfoldable pub same_set : (ℕ → Bool) → (ℕ → Bool) → Bool
same_set f g = all_below characters (λ c. beq (f c) (g c))
