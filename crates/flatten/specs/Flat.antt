-- The character class grammar of a grammar (01, "The flat book").
use Rattle.std.specs.Prelude.{ℕ, ◌-◌, Bool, cond, not, ◌&&◌, List, leb, ltb, eqb}
use Rattle.ccg.specs.Ccg.{Line}
use Rattle.classes.specs.Classes.{is_class, class_has}
use Rattle.common.specs.Lists.{tabulate}
use Rattle.layout.specs.Layout.{productions, argument_count, result_sort, argument}
use Rattle.layout.specs.Limits.{class_base}
use Rattle.priority.specs.Conflict.{fits, conflicts_in}
use Rattle.priority.specs.Priorities.{declarations_of}
use Rattle.priority.specs.declared.Declaration.{Declaration}
use Rattle.theory.specs.Tree.{production_number}

-- n is the number of a production.
unfoldable pub is_production : List ℕ → ℕ → Bool
is_production b n = leb (production_number 0) n && ltb n (production_number (productions b))

-- ---- by a list of declarations

-- Production q may stand as argument i of p: the argument is a sort and q's result, and q doesn't conflict there.
unfoldable pub may_stand_in : List ℕ → List Declaration → ℕ → ℕ → ℕ → Bool
may_stand_in b ls p i q = fits b p i q && not (conflicts_in b ls p i q)

-- Argument i of production p: a class argument keeps its characters, a sort argument has the numbers of all productions that may stand there.
unfoldable pub flat_class_in : List ℕ → List Declaration → ℕ → ℕ → ℕ → Bool
flat_class_in b ls p i n =
    cond (is_class b (argument b p i)) (class_has b (argument b p i - class_base) n) (is_production b n && may_stand_in b ls p i (n - production_number 0))

-- The line of production p. Its result is its own number.
unfoldable pub flat_line_in : List ℕ → List Declaration → ℕ → Line
flat_line_in b ls p = record { arguments = tabulate (argument_count b p) (flat_class_in b ls p); result = production_number p }

unfoldable pub flat_grammar_in : List ℕ → List Declaration → List Line
flat_grammar_in b ls = tabulate (productions b) (flat_line_in b ls)

-- ---- by the grammar's own

abbrev pub may_stand : List ℕ → ℕ → ℕ → ℕ → Bool
may_stand b = may_stand_in b (declarations_of b)

abbrev pub flat_class : List ℕ → ℕ → ℕ → ℕ → Bool
flat_class b = flat_class_in b (declarations_of b)

abbrev pub flat_line : List ℕ → ℕ → Line
flat_line b = flat_line_in b (declarations_of b)

-- 01's flat book.
abbrev pub flat_grammar : List ℕ → List Line
flat_grammar b = flat_grammar_in b (declarations_of b)

-- The numbers of all productions with result x, for a sort x; the characters of class x, for a class: what may stand at x if conflicts are let through.
unfoldable pub plain_class : List ℕ → ℕ → ℕ → Bool
plain_class b x n = cond (is_class b x) (class_has b (x - class_base) n) (is_production b n && eqb (result_sort b (n - production_number 0)) x)
