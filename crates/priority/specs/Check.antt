-- Checking a grammar (01's first operation): refusals 1 to 9 in the order of 01, "Refused because of the input".
use Rattle.std.specs.Prelude.{ℕ, Bool, List, [], ◌∷◌}
use Rattle.grammar.specs.Check.{short_header, bad_header, short_contents, bad_argument_counts, bad_range_counts, bad_length, bad_productions, bad_declarations, repeated_productions}
use Rattle.refusal.specs.Verdict.{refuse_if, first_refusal, in_order, Verdict}
use Rattle.layout.specs.Layout.{productions}
use Rattle.priority.specs.Chain.{entry}
use Rattle.priority.specs.Priorities.{is_higher_in, declarations_of}
use Rattle.priority.specs.declared.Declaration.{Declaration}
use Rattle.refusal.specs.declared.Fault.TheVariants.{Circle}

-- 9: a circle by a list of declarations; the place is the lowest production higher than itself
unfoldable pub circle : ℕ → List Declaration → ℕ → Verdict
circle count ls p = refuse_if (is_higher_in count ls p p) Circle p

-- the same, read off a table of "higher"
unfoldable pub on_diagonal : List (List Bool) → ℕ → Verdict
on_diagonal table p = refuse_if (entry table p p) Circle p

-- the first of them; by the grammar's own declarations
abbrev pub circles_in : List ℕ → List Declaration → Verdict
circles_in b ls = first_refusal (productions b) (circle (productions b) ls)

abbrev pub circles : List ℕ → Verdict
circles b = circles_in b (declarations_of b)

-- The table of refusals, a line each: 1 (first half), 2, 1 (second half), 3, 4, then 5 and 7 as the bytes come, 8, 9. There is no refusal 6 (02, [3]).
abbrev pub grammar_lines : List ℕ → List Verdict
grammar_lines b =
    short_header b
    ∷ bad_header b
    ∷ short_contents b
    ∷ bad_argument_counts b
    ∷ bad_range_counts b
    ∷ bad_length b
    ∷ bad_productions b
    ∷ bad_declarations b
    ∷ repeated_productions b
    ∷ circles b
    ∷ []

-- What checking a grammar gives: the first refusal of the table, or accepted.
unfoldable pub checked : List ℕ → Verdict
checked b = in_order (grammar_lines b)
