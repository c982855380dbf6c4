-- The character classes of a grammar (01, "The book"): which argument bytes are classes, which characters a class has, and which classes are one set.
use Rattle.std.specs.Prelude.{ℕ, ◌+◌, ◌-◌, ◌≤◌, ◌<◌, Bool, ◌&&◌, ◌||◌, List, ◌⊎◌, ◌≡◌, leb, ltb, eqb}
use Rattle.charset.specs.Set.{characters, has, spans, same_set}
use Rattle.common.specs.Below.{any_below}
use Rattle.layout.specs.Layout.{classes, range_count, low, high}
use Rattle.layout.specs.Limits.{class_base}

-- An argument byte that is a class.
unfoldable pub is_class : List ℕ → ℕ → Bool
is_class b x = leb class_base x && ltb x (class_base + classes b)

-- Character c is in class k: in one of its ranges, whichever way round that is written.
unfoldable pub class_has : List ℕ → ℕ → ℕ → Bool
class_has b k c = any_below (range_count b k) (λ r. spans (low b k r) (high b k r) c)

-- Some range of class k has character c: c lies between the two bytes of the range, either way round (02, [6]).
abbrev pub SomeRangeHas : List ℕ → ℕ → ℕ → Type 0
SomeRangeHas b k c = (r : ℕ) × (r < range_count b k) × (((low b k r ≤ c) × (c ≤ high b k r)) ⊎ ((high b k r ≤ c) × (c ≤ low b k r)))

-- The words hold the characters of class k.
abbrev pub SetOf : List ℕ → ℕ → List ℕ → Type 0
SetOf b k words = (c : ℕ) → c < characters → has words c ≡ class_has b k c

-- Classes j and k are the same set: they have the same characters, however their ranges are written.
unfoldable pub same_class : List ℕ → ℕ → ℕ → Bool
same_class b j k = same_set (class_has b j) (class_has b k)

-- two argument bytes are the same argument: one byte, so the same sort or class; or two classes that are the same set of characters (02, [5])
unfoldable pub same_argument : List ℕ → ℕ → ℕ → Bool
same_argument b x y = eqb x y || (is_class b x && is_class b y && same_class b (x - class_base) (y - class_base))
