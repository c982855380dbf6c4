-- Tests of a case, which the prover computes: they check trees and a chart that are given, and search for nothing.
use Prim.Native.Nat.{ℕ, zero, suc, ◌+◌, ◌-◌, ◌*◌}
use mathlib.Core.Bool.{Bool, false, true, cond, not, ◌&&◌}
use mathlib.Core.List.{List, [], ◌∷◌, ◌++◌}
use lib.Dec.{leb, ltb, eqb}
use lib.ListN.{length, get_or, replicate}
use Rattle.flatten.specs.Flat.{may_stand}
use Rattle.charset.specs.Set.{characters}
use Rattle.classes.specs.Classes.{is_class, class_has}
use Rattle.common.specs.Below.{all_below, bit_of}
use Rattle.refusal.specs.Fault.{number_of}
use Rattle.refusal.specs.Verdict.{Verdict}
use Rattle.std.specs.Prelude.{Ok, Err}
use Rattle.layout.specs.Layout.{productions, start_sort, argument_count, result_sort, argument}
use Rattle.layout.specs.Limits.{class_base}
use Rattle.marked.specs.Cases.{Expected, no_reading, one_reading, several_readings, bad_grammar, refused, Case}
use Rattle.parse.specs.Outcome.{refusal}
use Rattle.priority.specs.Check.{checked}
use Rattle.theory.specs.Grammar.{Grammar}
use Rattle.theory.specs.Steps.{Chart, cap, argument_sum, split_sum}
use Rattle.theory.specs.Tree.{Tree, leaf, node, Forest, none, ◌▷◌, yields, listing}

-- ---- lists of numbers

-- two lists are the same
unfoldable pub same : List ℕ → List ℕ → Bool
same [] [] = true
same [] (y ∷ m) = false
same (x ∷ l) [] = false
same (x ∷ l) (y ∷ m) = eqb x y && same l m

-- all members are bytes
unfoldable pub all_bytes : List ℕ → Bool
all_bytes [] = true
all_bytes (x ∷ l) = ltb x characters && all_bytes l

-- how often x stands in a list
unfoldable pub occurrences : ℕ → List ℕ → ℕ
occurrences x [] = 0
occurrences x (y ∷ l) = bit_of (eqb x y) + occurrences x l

-- ---- a grammar's bytes as a grammar of the theory

-- production p may be a root
abbrev pub starts : List ℕ → ℕ → Bool
starts b p = eqb (result_sort b p) (start_sort b)

-- What may stand as an argument of the first production that isn't there is what may be a root, so that roots are counted as arguments are.
unfoldable pub grammar_of : List ℕ → Grammar
grammar_of b =
    record {
      count = productions b;
      arity = argument_count b;
      chars = λ p d c. is_class b (argument b p d) && class_has b (argument b p d - class_base) c;
      subs = λ p d q. cond (ltb p (productions b)) (may_stand b p d q) (starts b q);
    }

-- ---- trees

unfoldable mutual
  -- the list f has a tree for each of the first d arguments of p
  pub derives : Grammar → ℕ → Forest → ℕ → Bool
  derives g p none zero = true
  derives g p none (suc d) = false
  derives g p (f ▷ t) zero = false
  derives g p (f ▷ t) (suc d) = derives g p f d && derives_at g p d t

  -- tree t may stand as argument d of p
  pub derives_at : Grammar → ℕ → ℕ → Tree → Bool
  derives_at g p d (leaf c) = g.chars p d c
  derives_at g p d (node q f) = ltb q g.count && (g.subs p d q && derives g q f (g.arity q))

-- t is a parse of w
unfoldable pub parses : Grammar → (ℕ → Bool) → List ℕ → Tree → Bool
parses g roots w (leaf c) = false
parses g roots w (node p f) = ltb p g.count && (roots p && (derives g p f (g.arity p) && same (yields f) w))

-- ---- charts

-- A chart: for each production and each count of its arguments the spans that trees for them spell, a span as often as there are lists of such trees.
abbrev pub Spans : Type 0
Spans = List (List (List ℕ))

-- the span from i to j as two digits
unfoldable pub chart_of : Spans → Chart
chart_of spans p d i j = occurrences (10 * i + j) (get_or (get_or spans p []) d [])

-- the chart misses no list of no trees
unfoldable pub empty_test : Grammar → List ℕ → Chart → Bool
empty_test g w c = all_below g.count (λ p. all_below (length w + 1) (λ i. leb 1 (c p 0 i i)))

-- and no list with one tree more, if it misses none of those that it rests on
unfoldable pub step_test : Grammar → List ℕ → Chart → Bool
step_test g w c =
    all_below g.count (λ p.
    all_below (g.arity p) (λ d.
    all_below (length w + 1) (λ j.
    all_below (j + 1) (λ i. leb (cap (split_sum g w c p d i j)) (c p (d + 1) i j)))))

-- how many parses the chart counts
unfoldable pub parse_sum : Grammar → List ℕ → Chart → ℕ
parse_sum g w c = argument_sum g w c g.count 0 0 (length w)

-- ---- verdicts

unfoldable pub accepts : Verdict → Bool
accepts (Ok _) = true
accepts (Err r) = false

unfoldable pub refuses : ℕ → ℕ → Verdict → Bool
refuses number place (Ok _) = false
refuses number place (Err r) = eqb (number_of r.fault) number && eqb r.place place

-- ---- cases

-- What is given for a case: trees that are readings, and a chart that counts all that are.
abbrev pub Given : Expected → Type 0
Given no_reading = Spans
Given (one_reading numbers) = Tree × Spans
Given several_readings = Tree × Tree
Given (bad_grammar number place) = Unit {0}
Given (refused number place) = Unit {0}

-- the text may be read
abbrev pub read_tests : (b w chart : List ℕ) → List Bool
read_tests b w chart = accepts (refusal b w chart) ∷ all_bytes b ∷ all_bytes w ∷ []

-- at most so many trees are readings
abbrev pub chart_tests : (b w : List ℕ) → Spans → ℕ → List Bool
chart_tests b w spans most =
    empty_test (grammar_of b) w (chart_of spans) ∷ step_test (grammar_of b) w (chart_of spans) ∷ leb (parse_sum (grammar_of b) w (chart_of spans)) most ∷ []

-- The tests of a case, all of which are to be true.
unfoldable pub tests : (b w chart : List ℕ) (e : Expected) → Given e → List Bool
tests b w chart no_reading spans = read_tests b w chart ++ chart_tests b w spans 0
tests b w chart (one_reading numbers) (t, spans) = read_tests b w chart ++ (parses (grammar_of b) (starts b) w t ∷ same (listing t) numbers ∷ []) ++ chart_tests b w spans 1
tests b w chart several_readings (t, u) =
    read_tests b w chart ++ (parses (grammar_of b) (starts b) w t ∷ parses (grammar_of b) (starts b) w u ∷ not (same (listing t) (listing u)) ∷ [])
tests b w chart (bad_grammar number place) given = refuses number place (checked b) ∷ []
tests b w chart (refused number place) given = refuses number place (refusal b w chart) ∷ []

unfoldable pub every : List Bool → Bool
every [] = true
every (t ∷ l) = t && every l

-- A case with what is given for it.
abbrev pub Shown : Type 0
Shown = (c : Case) × Given c.expected

abbrev pub case_of : Shown → Case
case_of s = s.0

unfoldable pub case_test : Shown → Bool
case_test (c, given) = every (tests c.book c.text (replicate c.lent 0) c.expected given)

-- the one test of a table
unfoldable pub table_test : List Shown → Bool
table_test [] = true
table_test (s ∷ l) = case_test s && table_test l
