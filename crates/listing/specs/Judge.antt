-- Going through the numbers of a listing once (01, "Readings, listings and the chart"), by any character class grammar.
use Rattle.std.specs.Prelude.{ℕ, ◌+◌, ◌-◌, Bool, false, cond, not, ◌&&◌, ◌||◌, List, [], ◌∷◌, ◌++◌, eqb, get_or, drop}
use Rattle.ccg.specs.Ccg.{Class, Line, no_line, is_terminal}
use Rattle.listing.specs.declared.Judgement.{Judgement}
use Rattle.listing.specs.declared.Judgement.TheVariants.{Right, Wrong}
use Rattle.theory.specs.Tree.{production_number}

-- the next byte of the text, of which w is left, is n
unfoldable pub is_next : List ℕ → ℕ → Bool
is_next [] n = false
is_next (c ∷ w) n = eqb c n

-- A number is right if it is in the class due there and, if a character, equals the next byte of the text.
unfoldable pub is_right : List Line → Class → List ℕ → ℕ → Bool
is_right g due w n = due n && (not (is_terminal g n) || is_next w n)

-- the classes due at the arguments of a number: those of its line; a character has none
unfoldable pub due_after : List Line → ℕ → List Class
due_after g n = cond (is_terminal g n) [] (get_or g (n - production_number 0) no_line).arguments

-- what is left of the text behind a number: a character takes one byte
unfoldable pub text_after : List Line → List ℕ → ℕ → List ℕ
text_after g w n = cond (is_terminal g n) (drop 1 w) w

-- The answer for the numbers left, of which the first has index k; the classes still due, in order; and the text left.
-- Right: numbers, classes and text end together. Wrong is the first number that is not right, or that comes after a complete tree, text left over or not;
-- or the count of numbers, if they end early, or end with their tree and text is left over.
unfoldable pub judge : List Line → List ℕ → List Class → List ℕ → ℕ → Judgement
judge g [] [] [] k = Right
judge g [] [] (c ∷ w) k = Wrong k
judge g [] (due ∷ dues) w k = Wrong k
judge g (n ∷ ns) [] w k = Wrong k
judge g (n ∷ ns) (due ∷ dues) w k = cond (is_right g due w n) (judge g ns (due_after g n ++ dues) (text_after g w n) (k + 1)) (Wrong k)
