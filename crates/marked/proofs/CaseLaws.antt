-- The law of the tests: a case whose tests are true holds, for all trees.
use Prim.Native.Nat.{ℕ, zero, suc, ◌+◌, ◌<◌}
use mathlib.Core.Bool.{Bool, true, not, ◌&&◌, false≢true}
use mathlib.Core.List.{List, [], ◌∷◌, map}
use mathlib.Core.Logic.{◌↔◌}
use mathlib.Core.Path.{◌≡◌, refl, sym, ◌∙◌, ap, ap₂, subst}
use native.Mathlib.Nat.{le_refl}
use native.Mathlib.Omega.{arith}
use lib.Dec.{leb, ltb, eqb}
use lib.ListN.{length, get_or, replicate}
use lib.Seq.{take-length}
use borrow.Author.Tests.{ltb-true, leb-true, eqb-true, not-true, lt-ltb, le-ltb, eq-eqb}
use Rattle.charset.specs.Set.{characters}
use Rattle.common.proofs.BelowLaws.{all_here}
use Rattle.common.proofs.BoolLaws.{and_both, and_first_true, and_second_true, not_both}
use Rattle.common.specs.Lists.{All}
use Rattle.engine.specs.Refusals.{too_long}
use Rattle.flatten.proofs.TestsLaws.{TestsAre, tests_parses}
use Rattle.flatten.specs.Reading.{Reading}
use Rattle.refusal.proofs.VerdictLaws.{and_first}
use Rattle.refusal.specs.Verdict.{in_order, Verdict, RefusedBy, accepted}
use Rattle.refusal.specs.Fault.{number_of}
use Rattle.std.specs.Prelude.{Ok, Err}
use Rattle.layout.specs.Layout.{productions}
use Rattle.marked.proofs.CaseTests.{same, all_bytes, starts, grammar_of, derives, derives_at, parses, Spans, chart_of, empty_test, step_test, parse_sum, accepts, refuses, Given, tests, every, Shown, case_of, case_test, table_test}
use Rattle.marked.specs.Cases.{Expected, no_reading, one_reading, several_readings, bad_grammar, refused, Says, Statement}
use Rattle.parse.specs.Outcome.{too_short, refusal}
use Rattle.priority.proofs.CheckLaws.{accepted_formed}
use Rattle.priority.specs.Check.{checked}
use Rattle.theory.proofs.ClosedLaws.{everything_due, stands_counted, stands_same}
use Rattle.theory.proofs.SpellsLaws.{derived_spells}
use Rattle.theory.specs.Grammar.{Grammar, Spells, Stands, Derived, DerivedAt, Parse}
use Rattle.theory.specs.Steps.{Chart, cap, split_sum, everything, Closed}
use Rattle.theory.specs.Tree.{Tree, leaf, node, Forest, none, ◌▷◌, yields, listing}

-- ---- lists of numbers

same_true : (l m : List ℕ) → same l m ≡ true → l ≡ m
unfolding same
same_true [] [] e = refl
same_true [] (y ∷ m) e = absurd (false≢true e)
same_true (x ∷ l) [] e = absurd (false≢true e)
same_true (x ∷ l) (y ∷ m) e = ap₂ ◌∷◌ (eqb-true x y (and_first_true (eqb x y) (same l m) e)) (same_true l m (and_second_true (eqb x y) (same l m) e))

same_self : (l : List ℕ) → same l l ≡ true
unfolding same
same_self [] = refl
same_self (x ∷ l) = and_both (eqb x x) (same l l) (eq-eqb x x refl) (same_self l)

same_false : (l m : List ℕ) → not (same l m) ≡ true → l ≡ m → ⊥
same_false l m e h = not_both (same l m) (subst (λ (k : List ℕ). same l k ≡ true) h (same_self l)) (not-true (same l m) e)

bytes_small : (l : List ℕ) → all_bytes l ≡ true → (k : ℕ) → get_or l k 0 < characters
unfolding all_bytes
bytes_small [] e k = omega arith
bytes_small (x ∷ l) e zero = ltb-true x characters (and_first_true (ltb x characters) (all_bytes l) e)
bytes_small (x ∷ l) e (suc k) = bytes_small l (and_second_true (ltb x characters) (all_bytes l) e) k

-- ---- trees

mutual
  unfolding derives Derived

  derives_true : (g : Grammar) (f : Forest) (p d : ℕ) → derives g p f d ≡ true → Derived g p f d
  derives_true g none p zero e = tt
  derives_true g none p (suc d) e = absurd (false≢true e)
  derives_true g (f ▷ t) p zero e = absurd (false≢true e)
  derives_true g (f ▷ t) p (suc d) e =
      (derives_true g f p d (and_first_true (derives g p f d) (derives_at g p d t) e), derives_at_true g t p d (and_second_true (derives g p f d) (derives_at g p d t) e))

  derives_at_true : (g : Grammar) (t : Tree) (p d : ℕ) → derives_at g p d t ≡ true → DerivedAt g p d t
  derives_at_true g (leaf c) p d e = e
  derives_at_true g (node q f) p d e =
      let under = derives g q f (g.arity q) in
      let h = and_second_true (ltb q g.count) (g.subs p d q && under) e in (
        ltb-true q g.count (and_first_true (ltb q g.count) (g.subs p d q && under) e),
        and_first_true (g.subs p d q) under h,
        derives_true g f q (g.arity q) (and_second_true (g.subs p d q) under h),
      )

parses_true : (g : Grammar) (roots : ℕ → Bool) (w : List ℕ) (t : Tree) → parses g roots w t ≡ true → Parse g roots w t
unfolding parses Parse
parses_true g roots w (leaf c) e = absurd (false≢true e)
parses_true g roots w (node p f) e =
    let known = ltb p g.count in
    let under = derives g p f (g.arity p) in
    let spelt = same (yields f) w in
    let h = and_second_true known (roots p && (under && spelt)) e in
    let k = and_second_true (roots p) (under && spelt) h in (
      ltb-true p g.count (and_first_true known (roots p && (under && spelt)) e),
      and_first_true (roots p) (under && spelt) h,
      derives_true g f p (g.arity p) (and_first_true under spelt k),
      same_true (yields f) w (and_second_true under spelt k),
    )

-- ---- charts

closed_true : (g : Grammar) (w : List ℕ) (c : Chart) → empty_test g w c ≡ true → step_test g w c ≡ true → Closed g w everything c
unfolding empty_test step_test
closed_true g w c e h =
    record {
      empty = λ p i lp li wp. leb-true 1 (c p 0 i i) (all_here _ (length w + 1) (all_here _ g.count e p lp) i (omega arith));
      step = λ p d i j lp ld ij jw wp. leb-true (cap (split_sum g w c p d i j)) (c p (d + 1) i j)
          (all_here _ (j + 1) (all_here _ (length w + 1) (all_here _ (g.arity p) (all_here _ g.count h p lp) d ld) j (omega arith)) i (omega arith));
    }

-- ---- readings: the parses of a grammar of the theory that tests what the bytes do

module _ (b w : List ℕ) (good : checked b ≡ accepted) (bytes : all_bytes b ≡ true) (text : all_bytes w ≡ true) where
  abbrev g : Grammar
  g = grammar_of b

  grammar_tests : TestsAre b g
  unfolding grammar_of
  grammar_tests =
      record {
        count_is = refl;
        arity_is = λ p lp. refl;
        chars_are = λ p d c lp ld lc. refl;
        subs_are = λ p d q lp ld lq. rw (lt-ltb p (productions b) lp) refl;
      }

  readings : (t : Tree) → Parse g (starts b) w t ↔ Reading b w t
  readings = tests_parses b (accepted_formed b good) (bytes_small b bytes) g grammar_tests w (bytes_small w text)

  is_reading : (t : Tree) → parses g (starts b) w t ≡ true → Reading b w t
  is_reading t e = (readings t).0 (parses_true g (starts b) w t e)

  -- a parse stands where the roots are counted
  root_stands : (t : Tree) → Parse g (starts b) w t → Stands g w g.count 0 t 0 (length w)
  unfolding Parse Spells grammar_of
  root_stands (leaf c) s = absurd s
  root_stands (node p f) s = (
    s.0,
    rw (le-ltb (productions b) (productions b) (le_refl (productions b))) s.1,
    derived_spells g w p f (g.arity p) 0 (length w) s.2 (omega arith) (le_refl (length w)) (s.3 ∙ sym (take-length w)),
  )

  module _ (spans : Spans) (empty : empty_test g w (chart_of spans) ≡ true) (step : step_test g w (chart_of spans) ≡ true) where
    abbrev c : Chart
    c = chart_of spans

    closed : Closed g w everything c
    closed = closed_true g w c empty step

    no_reading_lem : leb (parse_sum g w c) 0 ≡ true → (t : Tree) → Reading b w t → ⊥
    unfolding parse_sum
    no_reading_lem few t r =
        omega (arith, leb-true (parse_sum g w c) 0 few, stands_counted g w everything (everything_due g w) c closed g.count 0 t 0 (length w) (λ q l e. refl) (root_stands t ((readings t).1 r)))

    one_reading_lem : leb (parse_sum g w c) 1 ≡ true → (t u : Tree) → Reading b w t → Reading b w u → t ≡ u
    unfolding parse_sum
    one_reading_lem few t u r s =
        stands_same g w everything (everything_due g w) c closed g.count 0 t u 0 (length w) (λ q l e. refl) (leb-true (parse_sum g w c) 1 few) (root_stands t ((readings t).1 r)) (root_stands u ((readings u).1 s))

-- ---- verdicts

accepts_true : (v : Verdict) → accepts v ≡ true → v ≡ accepted
unfolding accepts
accepts_true (Ok _) e = refl
accepts_true (Err r) e = absurd (false≢true e)

refuses_true : (number place : ℕ) (v : Verdict) → refuses number place v ≡ true → RefusedBy v number place
unfolding refuses
refuses_true number place (Ok _) e = absurd (false≢true e)
refuses_true number place (Err r) e =
    let numbered = eqb (number_of r.fault) number in
    let placed = eqb r.place place in
    (r, refl, eqb-true (number_of r.fault) number (and_first_true numbered placed e), eqb-true r.place place (and_second_true numbered placed e))

-- where reading is not refused, the grammar is not
readable : (b w chart : List ℕ) → refusal b w chart ≡ accepted → checked b ≡ accepted
unfolding refusal
readable b w chart e = and_first (checked b) (in_order (too_long w ∷ too_short b w chart ∷ [])) e

-- ---- cases

every_true : (l : List Bool) → every l ≡ true → All (λ (t : Bool). t ≡ true) l
unfolding every
every_true [] e = tt
every_true (t ∷ l) e = (and_first_true t (every l) e, every_true l (and_second_true t (every l) e))

-- all tests of a case are true: then it holds
tests_true : (b w chart : List ℕ) (e : Expected) (given : Given e) → All (λ (t : Bool). t ≡ true) (tests b w chart e given) → Says b w chart e
unfolding tests Says
tests_true b w chart no_reading spans (free, (bytes, (text, (empty, (step, (few, _)))))) =
    let accepted = accepts_true (refusal b w chart) free in
    (accepted, no_reading_lem b w (readable b w chart accepted) bytes text spans empty step few)
tests_true b w chart (one_reading numbers) (t, spans) (free, (bytes, (text, (parse, (list, (empty, (step, (few, _)))))))) =
    let accepted = accepts_true (refusal b w chart) free in
    let good = readable b w chart accepted in
    let holds = is_reading b w good bytes text t parse in
    (accepted, t, record { holds = holds; alone = λ u r. one_reading_lem b w good bytes text spans empty step few u t r holds }, same_true (listing t) numbers list)
tests_true b w chart several_readings (t, u) (free, (bytes, (text, (parse, (parse', (apart, _)))))) =
    let accepted = accepts_true (refusal b w chart) free in
    let reading = is_reading b w (readable b w chart accepted) bytes text in
    (accepted, (t, u, reading t parse, reading u parse', λ e. same_false (listing t) (listing u) apart (ap listing e)))
tests_true b w chart (bad_grammar number place) given (e, _) = refuses_true number place (checked b) e
tests_true b w chart (refused number place) given (e, _) = refuses_true number place (refusal b w chart) e

case_true : (s : Shown) → case_test s ≡ true → Statement (case_of s)
unfolding case_test Statement
case_true (c, given) e =
    let chart : List ℕ = replicate c.lent 0 in
    tests_true c.book c.text chart c.expected given (every_true (tests c.book c.text chart c.expected given) e)

-- a table whose test is true holds
pub table_true : (l : List Shown) → table_test l ≡ true → All Statement (map case_of l)
unfolding table_test
table_true [] e = tt
table_true (s ∷ l) e = (case_true s (and_first_true (case_test s) (table_test l) e), table_true l (and_second_true (case_test s) (table_test l) e))
