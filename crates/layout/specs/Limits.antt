-- The limits of 01, "The book". Each number stands here and nowhere else in the definitions.
use Rattle.std.specs.Prelude.{ℕ}

-- most sorts
abbrev pub sort_limit : ℕ
sort_limit = 32

-- most productions (01's rules)
abbrev pub production_limit : ℕ
production_limit = 64

-- most character classes
abbrev pub class_limit : ℕ
class_limit = 64

-- most arguments of a production
abbrev pub argument_limit : ℕ
argument_limit = 8

-- most ranges of a character class
abbrev pub range_limit : ℕ
range_limit = 16

-- the kinds of declaration are 1, 2, … up to this
abbrev pub kind_limit : ℕ
kind_limit = 7

-- those up to this are of two productions, those above it of a whole group (02, [2])
abbrev pub pair_kind_limit : ℕ
pair_kind_limit = 4

-- how far a kind of groups stands above the kind of two productions that says the same
abbrev pub group_step : ℕ
group_step = 3

-- the argument byte of class 0
abbrev pub class_base : ℕ
class_base = 64

-- the bytes before the contents
abbrev pub header_length : ℕ
header_length = 6

-- the bytes of a declaration
abbrev pub declaration_length : ℕ
declaration_length = 3
