-- Algorithm 4.1 of 000, step by step: from a grammar with priorities to a character class grammar.
-- Steps (0) and (1) of Algorithm 3.7 are 01's numbers: a character is its byte, production p has production_number p.
use Rattle.std.specs.Prelude.{ℕ, ◌+◌, ◌-◌, ◌<◌, ◌≡◌, true, cond, not, ◌&&◌, ◌||◌, List, ltb, eqb}
use Rattle.ccg.specs.Ccg.{Class, Line}
use Rattle.flatten.specs.Flat.{is_production}
use Rattle.classes.specs.Classes.{is_class, class_has}
use Rattle.common.specs.Lists.{tabulate}
use Rattle.layout.specs.Layout.{productions, argument_count, result_sort, argument}
use Rattle.layout.specs.Limits.{class_base}
use Rattle.priority.specs.Conflict.{fits}
use Rattle.priority.specs.Priorities.{left, right, nonassoc, declared, Higher, is_higher}
use Rattle.theory.specs.Tree.{production_number}

-- ---- (1): Algorithm 3.7, for the grammar without its priorities

-- (2) of Algorithm 3.7: the numbers of the productions for sort x.
unfoldable pub nums : List ℕ → ℕ → Class
nums b x n = is_production b n && eqb (result_sort b (n - production_number 0)) x

-- (3b) of Algorithm 3.7: a class argument keeps its characters, a sort argument becomes nums of that sort.
unfoldable pub context_free_class : List ℕ → ℕ → ℕ → Class
context_free_class b p i = cond (is_class b (argument b p i)) (class_has b (argument b p i - class_base)) (nums b (argument b p i))

-- ---- (2): the priorities as sets of production numbers

-- (L): the numbers of the productions q with p > q, p right q or p non-assoc q.
unfoldable pub in_l : List ℕ → ℕ → Class
in_l b p n = let q = n - production_number 0 in is_production b n && (is_higher b p q || (declared b right p q || declared b nonassoc p q))

-- (M): those with p > q.
unfoldable pub in_m : List ℕ → ℕ → Class
in_m b p n = let q = n - production_number 0 in is_production b n && is_higher b p q

-- (R): those with p > q, p left q or p non-assoc q.
unfoldable pub in_r : List ℕ → ℕ → Class
in_r b p n = let q = n - production_number 0 in is_production b n && (is_higher b p q || (declared b left p q || declared b nonassoc p q))

-- ---- (3): the classes filtered

-- The numbers of the first class that the second lacks (000, Definition 3.1: difference).
unfoldable pub without : Class → Class → Class
without cc dd n = cc n && not (dd n)

-- (3)(a): of no argument or one, nothing is taken out. (3)(b): of more, L at the first, R at the last, M between.
unfoldable pub filtered_class : List ℕ → ℕ → ℕ → Class
filtered_class b p i =
    cond (ltb (argument_count b p) 2) (context_free_class b p i)
    (cond (eqb i 0) (without (context_free_class b p i) (in_l b p))
    (cond (eqb (i + 1) (argument_count b p)) (without (context_free_class b p i) (in_r b p))
    (without (context_free_class b p i) (in_m b p))))

-- The line of production p; (3a) of Algorithm 3.7: its result is its own number.
unfoldable pub visser_line : List ℕ → ℕ → Line
visser_line b p = record { arguments = tabulate (argument_count b p) (filtered_class b p); result = production_number p }

-- The grammar of Algorithm 4.1: a line for each production.
unfoldable pub visser_grammar : List ℕ → List Line
visser_grammar b = tabulate (productions b) (visser_line b)

-- ---- where 01 differs from (3)(a)

-- Of exactly one argument M is taken out too, as Definition 2.6 lets it conflict by "higher"; every other class is the algorithm's.
unfoldable pub completed_class : List ℕ → ℕ → ℕ → Class
completed_class b p i = cond (eqb (argument_count b p) 1) (without (context_free_class b p i) (in_m b p)) (filtered_class b p i)

-- The line of production p with these classes.
unfoldable pub completed_line : List ℕ → ℕ → Line
completed_line b p = record { arguments = tabulate (argument_count b p) (completed_class b p); result = production_number p }

-- The grammar of Algorithm 4.1 so completed.
unfoldable pub completed_grammar : List ℕ → List Line
completed_grammar b = tabulate (productions b) (completed_line b)

-- Some production p of one argument is higher than some production q that fits it: there the two differ.
pub record SingleHigher (b : List ℕ) : Type 0 where
  pub p : ℕ
  pub q : ℕ
  pub p_there : p < productions b
  pub q_there : q < productions b
  pub single : argument_count b p ≡ 1
  pub fitting : fits b p 0 q ≡ true
  pub above : Higher b p q
