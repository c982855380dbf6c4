-- The numbers that the text of a character class grammar names, in its order (02, [6]).
use Rattle.std.specs.Prelude.{ℕ, cond, List, [], ◌∷◌, ◌++◌, eqb}
use Rattle.ccg.specs.Ccg.{Class, Line}
use Rattle.ccg.specs.Text.{number_limit}
use Rattle.charset.specs.Runs.{Range, runs}
use Rattle.common.specs.Lists.{joined}

-- the ends of a range, which are one number if it has only one
unfoldable pub range_numbers : Range → List ℕ
range_numbers r = cond (eqb r.low r.high) (r.low ∷ []) (r.low ∷ r.high ∷ [])

-- those of a class's normal ranges
unfoldable pub class_numbers : Class → List ℕ
class_numbers cc = joined range_numbers (runs cc 0 number_limit)

-- those of a line's arguments, and its result
unfoldable pub line_numbers : Line → List ℕ
line_numbers l = joined class_numbers l.arguments ++ class_numbers (eqb l.result)

unfoldable pub grammar_numbers : List Line → List ℕ
grammar_numbers g = joined line_numbers g
