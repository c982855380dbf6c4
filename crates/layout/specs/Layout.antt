-- Where each part of a grammar (01's book) stands among its bytes (01, "The book: contents, then bodies").
use Rattle.std.specs.Prelude.{ℕ, ◌+◌, ◌*◌, List, get_or}
use Rattle.common.specs.Below.{sum_below}
use Rattle.layout.specs.Limits.{header_length, declaration_length}

-- Byte k.
abbrev pub byte_at : List ℕ → ℕ → ℕ
byte_at b k = get_or b k 0

-- ---- bytes 0 to 5

-- how many sorts (01's S)
abbrev pub sorts : List ℕ → ℕ
sorts b = byte_at b 0

-- how many productions (01's rules, R)
abbrev pub productions : List ℕ → ℕ
productions b = byte_at b 1

-- how many character classes (01's K)
abbrev pub classes : List ℕ → ℕ
classes b = byte_at b 2

-- how many priority declarations (01's D)
abbrev pub declarations : List ℕ → ℕ
declarations b = byte_at b 3

abbrev pub start_sort : List ℕ → ℕ
start_sort b = byte_at b 4

-- ---- the contents: a count for each production and for each class

abbrev pub argument_count_at : List ℕ → ℕ → ℕ
argument_count_at b p = header_length + p

abbrev pub range_count_at : List ℕ → ℕ → ℕ
range_count_at b k = header_length + productions b + k

unfoldable pub argument_count : List ℕ → ℕ → ℕ
argument_count b p = byte_at b (argument_count_at b p)

unfoldable pub range_count : List ℕ → ℕ → ℕ
range_count b k = byte_at b (range_count_at b k)

-- where the contents end and the bodies begin
abbrev pub bodies_at : List ℕ → ℕ
bodies_at b = header_length + productions b + classes b

-- ---- the bodies, without gaps

-- production p: its result sort, then a byte for each argument
unfoldable pub production_at : List ℕ → ℕ → ℕ
production_at b p = bodies_at b + sum_below p (λ q. 1 + argument_count b q)

abbrev pub argument_at : List ℕ → ℕ → ℕ → ℕ
argument_at b p i = production_at b p + 1 + i

unfoldable pub result_sort : List ℕ → ℕ → ℕ
result_sort b p = byte_at b (production_at b p)

unfoldable pub argument : List ℕ → ℕ → ℕ → ℕ
argument b p i = byte_at b (argument_at b p i)

-- class k: for each range the two characters at its ends, which 01 calls low and high; either may be the lower one (02, [3])
unfoldable pub class_at : List ℕ → ℕ → ℕ
class_at b k = production_at b (productions b) + sum_below k (λ j. 2 * range_count b j)

abbrev pub range_at : List ℕ → ℕ → ℕ → ℕ
range_at b k r = class_at b k + 2 * r

unfoldable pub low : List ℕ → ℕ → ℕ → ℕ
low b k r = byte_at b (range_at b k r)

unfoldable pub high : List ℕ → ℕ → ℕ → ℕ
high b k r = byte_at b (range_at b k r + 1)

-- declaration d: kind, first production, second production
unfoldable pub declaration_at : List ℕ → ℕ → ℕ
declaration_at b d = class_at b (classes b) + declaration_length * d

unfoldable pub kind : List ℕ → ℕ → ℕ
kind b d = byte_at b (declaration_at b d)

unfoldable pub first : List ℕ → ℕ → ℕ
first b d = byte_at b (declaration_at b d + 1)

unfoldable pub second : List ℕ → ℕ → ℕ
second b d = byte_at b (declaration_at b d + 2)

-- ---- the length that the header and the contents call for

unfoldable pub needed_length : List ℕ → ℕ
needed_length b =
    header_length + productions b + classes b + sum_below (productions b) (λ p. 1 + argument_count b p) + 2 * sum_below (classes b) (λ k. range_count b k) + declaration_length * declarations b
