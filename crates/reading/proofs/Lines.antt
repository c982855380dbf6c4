-- What is printed, one number more.
use Rattle.std.proofs.Common.{◌≡◌, ℕ, ◌+◌, ◌*◌, ◌++◌, List, Option, None, Some, add-one, append_assoc, append-nil, refl, ap, sym, ◌∙◌}
use Rattle.std.specs.Io.KnownBytes.{Appends}
use Rattle.reading.specs.Line.{spaced, spaced_numbers}

spaced_more : (listing : List ℕ) (count : ℕ) → spaced_numbers listing (count + 1) ≡ spaced_numbers listing count ++ spaced listing (2 * count)
unfolding spaced_numbers
spaced_more listing count = rw add-one refl

appends_more : (a b c : Option (List ℕ)) (p q : List ℕ) → Appends a b p → Appends b c q → Appends a c (p ++ q)
appends_more None b c p q first second = tt
appends_more (Some xs) None c p q first second = absurd first
appends_more (Some xs) (Some ys) None p q first second = absurd second
appends_more (Some xs) (Some ys) (Some zs) p q first second = second ∙ ap (λ l. l ++ q) first ∙ append_assoc xs p q

-- no number
pub numbers_none : (a b : Option (List ℕ)) (word listing : List ℕ) → Appends a b word → Appends a b (word ++ spaced_numbers listing 0)
unfolding spaced_numbers
numbers_none a b word listing first = rw append-nil first

-- a number more
pub numbers_more : (a b c : Option (List ℕ)) (word listing : List ℕ) (count : ℕ) → Appends a b (word ++ spaced_numbers listing count) → Appends b c (spaced listing (2 * count))
    → Appends a c (word ++ spaced_numbers listing (count + 1))
numbers_more a b c word listing count first second =
    rw spaced_more (rw (sym (append_assoc word (spaced_numbers listing count) (spaced listing (2 * count)))) (appends_more a b c (word ++ spaced_numbers listing count) (spaced listing (2 * count)) first second))
