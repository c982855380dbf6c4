-- The written form of a character class grammar (01, "The flat book").
use Rattle.std.specs.Prelude.{ℕ, cond, List, [], ◌∷◌, ◌++◌, eqb}
use Rattle.ccg.specs.Ccg.{Class, Line}
use Rattle.charset.specs.Runs.{Range, runs}
use Rattle.common.specs.Lists.{joined}
use Rattle.layout.specs.Limits.{production_limit}
use Rattle.theory.specs.Tree.{production_number}
use Rattle.writing.specs.Bytes.{line_feed, space}
use Rattle.writing.specs.Numeral.{numeral}

-- ---- the bytes between the numbers

abbrev pub dash : ℕ
dash = 45

abbrev pub greater : ℕ
greater = 62

abbrev pub bracket_open : ℕ
bracket_open = 91

abbrev pub backslash : ℕ
backslash = 92

abbrev pub bracket_close : ℕ
bracket_close = 93

-- ---- classes

-- a range of one number is \n, of more \a-\b
unfoldable pub range_text : Range → List ℕ
range_text r = cond (eqb r.low r.high) (backslash ∷ numeral r.low) (backslash ∷ numeral r.low ++ dash ∷ backslash ∷ numeral r.high)

-- no class names this number or one above it
abbrev pub number_limit : ℕ
number_limit = production_number production_limit

-- [, the normal ranges with nothing between, ]
unfoldable pub class_text : Class → List ℕ
class_text cc = bracket_open ∷ joined range_text (runs cc 0 number_limit) ++ (bracket_close ∷ [])

-- ---- lines

-- each argument, with a space behind it
unfoldable pub arguments_text : List Class → List ℕ
arguments_text ccs = joined (λ cc. class_text cc ++ (space ∷ [])) ccs

-- ->, a space, the result, a line feed
unfoldable pub result_text : ℕ → List ℕ
result_text n = dash ∷ greater ∷ space ∷ class_text (eqb n) ++ (line_feed ∷ [])

-- arguments parted by one space, a space, and so on; with no argument the line starts at ->
unfoldable pub line_text : Line → List ℕ
line_text l = arguments_text l.arguments ++ result_text l.result

unfoldable pub grammar_text : List Line → List ℕ
grammar_text g = joined line_text g
