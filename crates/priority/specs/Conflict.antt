-- Priority conflicts (000, Definition 2.6; 01's clashes): a production standing as an argument of another where the priorities forbid it.
use Rattle.std.specs.Prelude.{ℕ, ◌+◌, Bool, true, ◌&&◌, ◌||◌, List, ◌≡◌, leb, ltb, eqb}
use Rattle.layout.specs.Layout.{sorts, productions, argument_count, result_sort, argument}
use Rattle.priority.specs.Priorities.{left, right, nonassoc, declared_in, HigherIn, is_higher_in, declarations_of}
use Rattle.priority.specs.declared.Declaration.{Declaration}

-- An argument byte that is a sort.
unfoldable pub is_sort : List ℕ → ℕ → Bool
is_sort b x = ltb x (sorts b)

-- Argument i of production p is a sort, and it is q's result: there q may stand, conflicts let through.
unfoldable pub fits : List ℕ → ℕ → ℕ → ℕ → Bool
fits b p i q = is_sort b (argument b p i) && eqb (argument b p i) (result_sort b q)

-- Argument i is the first, or the last, of two or more; arguments that are classes count too.
unfoldable pub is_first : List ℕ → ℕ → ℕ → Bool
is_first b p i = eqb i 0 && leb 2 (argument_count b p)

unfoldable pub is_last : List ℕ → ℕ → ℕ → Bool
is_last b p i = eqb (i + 1) (argument_count b p) && leb 2 (argument_count b p)

-- ---- by a list of declarations, of any length; a grammar's own are those that its bytes give

-- The pair is declared right or not together; left or not together.
unfoldable pub right_or_nonassoc : List Declaration → ℕ → ℕ → Bool
right_or_nonassoc ls x y = declared_in ls right x y || declared_in ls nonassoc x y

unfoldable pub left_or_nonassoc : List Declaration → ℕ → ℕ → Bool
left_or_nonassoc ls x y = declared_in ls left x y || declared_in ls nonassoc x y

-- Production q as argument i of production p matches one of the patterns of Definition 2.6, a constructor to a rule.
pub data ConflictIn (b : List ℕ) (ls : List Declaration) (p i q : ℕ) : Type 0 where
  anywhere : fits b p i q ≡ true → HigherIn ls p q → ConflictIn b ls p i q
  at_first : fits b p i q ≡ true → is_first b p i ≡ true → right_or_nonassoc ls p q ≡ true → ConflictIn b ls p i q
  at_last : fits b p i q ≡ true → is_last b p i ≡ true → left_or_nonassoc ls p q ≡ true → ConflictIn b ls p i q

-- By the grammar's own declarations (01's clash).
abbrev pub Conflict : List ℕ → ℕ → ℕ → ℕ → Type 0
Conflict b = ConflictIn b (declarations_of b)

-- The executable twin: the three lines of 01, "Ranks and clashes", in order.
unfoldable pub barred : List ℕ → List Declaration → ℕ → ℕ → ℕ → Bool
barred b ls p i q = is_higher_in (productions b) ls p q || is_first b p i && right_or_nonassoc ls p q || is_last b p i && left_or_nonassoc ls p q

unfoldable pub conflicts_in : List ℕ → List Declaration → ℕ → ℕ → ℕ → Bool
conflicts_in b ls p i q = fits b p i q && barred b ls p i q

-- The same by the grammar's own.
abbrev pub conflicts : List ℕ → ℕ → ℕ → ℕ → Bool
conflicts b = conflicts_in b (declarations_of b)
