-- Where the words of the tables stand, and what they say.
use Prim.Native.Nat.{ℕ, ◌+◌, ◌*◌, ◌/◌, ◌%◌, ◌≤◌, ◌<◌}
use mathlib.Core.Path.{◌≡◌, ◌∙◌, ap}
use mathlib.Core.List.{List}
use native.Mathlib.Omega.{arith}
use lib.ListN.{length, get_or, take, drop, length-drop}
use lib.Seq.{length-take-le, get_or-take, get_or-drop, ext_get_or}
use Rattle.charset.proofs.BitLaws.{bit_part}
use Rattle.charset.specs.Set.{bit, word_bits, set_words}
use Rattle.layout.specs.Limits.{production_limit, argument_limit}
use Rattle.tables.specs.Layout.{slot, slots, counts_at, class_words, slot_at, table_words, count_of, counts_of, arity_in, takes_production, octet_bits, production_octet, ParserTables}

-- ---- counts

-- there is a count for each production
pub counts_long : (t : List ℕ) → length t ≡ table_words → count_of t ≤ production_limit → length (counts_of t) ≡ count_of t
unfolding counts_of
counts_long t l h = length-take-le (count_of t) (drop counts_at t) (simp length-drop (omega arith))

-- so there are few
pub counts_few : (t : List ℕ) → ParserTables t → length (counts_of t) ≤ production_limit
counts_few t h = omega (arith, counts_long t h.long h.few_productions, h.few_productions)

pub count_at : (t : List ℕ) (p : ℕ) → p < count_of t → arity_in (counts_of t) p ≡ get_or t (counts_at + p) 0
unfolding counts_of
count_at t p l = get_or-take (count_of t) (drop counts_at t) p 0 l ∙ get_or-drop counts_at t p 0

-- a table that has a count for each production begins with the counts
pub counts_copied : (t r : List ℕ) (n : ℕ) → n ≡ length (counts_of t) → n ≤ length r → ((p : ℕ) → p < length (counts_of t) → get_or r p 0 ≡ arity_in (counts_of t) p)
    → take n r ≡ counts_of t
counts_copied t r n e l are =
    ext_get_or 0 (take n r) (counts_of t) (length-take-le n r l ∙ e)
    (λ p m. let o : p < n = omega (arith, length-take-le n r l) in get_or-take n r p 0 o ∙ are p (omega arith))

-- ---- slots

-- the slot of an argument is one
pub slot_in : (p i : ℕ) → p < production_limit → i < argument_limit → slot p i < slots
unfolding slot
slot_in p i l m = omega arith

-- and its class stands in the tables, as the root's does
pub class_in : (s : ℕ) → s ≤ slots → slot_at s + class_words ≤ table_words
unfolding slot_at
class_in s h = omega arith

-- bit b of octet k is production 8 k + b
pub octet_bit : (t : List ℕ) (s k b : ℕ) → b < octet_bits → bit (production_octet t s k) b ≡ takes_production t s (k * octet_bits + b)
unfolding production_octet takes_production
octet_bit t s k b l =
    let word : k * octet_bits / word_bits ≡ (k * octet_bits + b) / word_bits = omega arith in
    let place : k * octet_bits % word_bits + b ≡ (k * octet_bits + b) % word_bits = omega arith in
    bit_part (get_or t (slot_at s + set_words + k * octet_bits / word_bits) 0) (k * octet_bits % word_bits) octet_bits b l ∙ ap (λ (w : ℕ). bit (get_or t (slot_at s + set_words + w) 0) (k * octet_bits % word_bits + b)) word ∙ ap (λ (x : ℕ). bit (get_or t (slot_at s + set_words + (k * octet_bits + b) / word_bits) 0) x) place
