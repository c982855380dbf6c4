-- A filled chart answers: its cells at the root count the parses, and the tree written is the parse if there is one.
use Prim.Native.Nat.{ℕ, ◌-◌, ◌≤◌, ◌<◌}
use mathlib.Core.Path.{◌≡◌, refl, ◌∙◌, ap, subst, subst⁻¹}
use mathlib.Core.Bool.{Bool, true}
use mathlib.Core.List.{List}
use native.Mathlib.Omega.{arith}
use native.Mathlib.Nat.{le_refl}
use lib.ListN.{length, get_or, take, length-take}
use lib.Seq.{length-take-le, take_all, sets}
use Rattle.chart.proofs.CountedLaws.{counted_front}
use Rattle.chart.specs.Counted.{CountedBy}
use Rattle.chart.specs.Layout.{chart_need, ChartFits}
use Rattle.common.proofs.BelowLaws.{sum_at, bit_one}
use Rattle.common.proofs.OverwrittenLaws.{overwritten_of, sets_front}
use Rattle.common.proofs.ProductLaws.{product_one, right_below}
use Rattle.common.specs.Below.{sum_below, bit_of}
use Rattle.common.specs.Lists.{overwritten}
use Rattle.engine.specs.Outcome.{Answered, ChartAfter}
use Rattle.engine.specs.Roots.{ParseBy, root_term, parsing_by, Filled}
use Rattle.numbers.proofs.WrittenLaws.{bytes_long}
use Rattle.extract.specs.Places.{cell_of}
use Rattle.extract.specs.Walk.{OnlyWritten}
use Rattle.numbers.specs.Written.{bytes_of, room}
use Rattle.tables.specs.Layout.{root_slot, counts_of, arity_in, takes_production}
use Rattle.tables.specs.Theory.{theory_of}
use Rattle.theory.proofs.ClosedLaws.{everything_due}
use Rattle.theory.proofs.CountLaws.{counts_bounds, counts_unique, parse_of, parse_counts}
use Rattle.theory.specs.Counts.{Only, Counts}
use Rattle.theory.specs.Grammar.{Grammar, Spells}
use Rattle.theory.specs.Steps.{cap, everything, root_sum}
use Rattle.theory.specs.Tree.{Tree, node, Forest, listing}
use Rattle.engine.specs.declared.Answer.TheVariants.{None, One, Several, Refused}
use Rattle.refusal.specs.Verdict.{refusal}
use Rattle.refusal.specs.declared.Fault.TheVariants.{LongListing}

-- ---- what is lent

-- a chart of the same length fits
pub fits_kept : (tables : List ℕ) (n : ℕ) (chart chart' : List ℕ) → length chart' ≡ length chart → ChartFits tables n chart → ChartFits tables n chart'
fits_kept tables n chart chart' e h = record { tables = h.tables; short = h.short; long_enough = omega (arith, h.long_enough) }

-- one that is filled everywhere
pub filled_all : (tables w chart : List ℕ) → ChartFits tables (length w) chart → CountedBy (theory_of tables) w everything chart → Filled tables w chart
filled_all tables w chart h counted =
    record { walkable = record { fits = h; wanted = everything; dues = everything_due (theory_of tables) w; counted = counted }; roots_wanted = λ p l e. refl }

-- ---- the parses

module _ (tables w chart : List ℕ) (h : Filled tables w chart) where
  abbrev g : Grammar
  g = theory_of tables

  abbrev roots : ℕ → Bool
  roots = takes_production tables root_slot

  abbrev IsParse : Tree → Type 0
  IsParse = ParseBy tables w

  abbrev total : ℕ
  total = sum_below (length (counts_of tables)) (root_term tables w chart)

  -- how many lists of trees production p has for the whole text
  trees : ℕ → ℕ
  trees p = cell_of tables w chart p (arity_in (counts_of tables) p) 0 (length w)

  total_is : total ≡ root_sum g roots trees
  unfolding root_sum root_term trees
  total_is = refl

  trees_count : (p : ℕ) → p < g.count → roots p ≡ true → Counts (λ (f : Forest). Spells g w p f (g.arity p) 0 (length w)) (trees p)
  unfolding trees
  trees_count p l e = h.walkable.counted.counts p (arity_in (counts_of tables) p) 0 (length w) l (le_refl (arity_in (counts_of tables) p)) (omega arith) (le_refl (length w)) (h.roots_wanted p l e)

  -- The cells at the root count them.
  pub parses_counted : (v : ℕ) → v ≡ cap total → Counts IsParse v
  parses_counted v e = subst⁻¹ (Counts IsParse) (e ∙ ap cap total_is) (parse_counts g w roots trees trees_count)

  -- so they add up to one if there is one
  pub total_one : Counts IsParse 1 → total ≡ 1
  total_one one = let e = counts_unique IsParse 1 (cap total) one (parses_counted (cap total) refl) in omega arith

  -- ---- the only one

  module _ (one : Counts IsParse 1) (p : ℕ) (lp : p < length (counts_of tables)) (at_root : 1 ≤ root_term tables w chart p) where
    allowed : roots p ≡ true
    unfolding root_term
    allowed = bit_one (roots p) (product_one (bit_of (roots p)) (cell_of tables w chart p (arity_in (counts_of tables) p) 0 (length w)) at_root).0

    -- the cell that its tree is written from counts one
    pub root_cell : cell_of tables w chart p (arity_in (counts_of tables) p) 0 (length w) ≡ 1
    unfolding root_term
    root_cell =
        let cell = cell_of tables w chart p (arity_in (counts_of tables) p) 0 (length w) in
        let a = product_one (bit_of (roots p)) cell at_root in
        omega (arith, a.1, right_below (bit_of (roots p)) cell a.0, sum_at (root_term tables w chart) (length (counts_of tables)) p lp, total_one one)

    -- the tree written is a parse, and the only one
    module _ (l₀ l : List ℕ) (r : ℕ) (v : OnlyWritten (theory_of tables) w p l₀ l r) where
      abbrev tree : Tree
      tree = node p v.trees

      only : Only IsParse tree
      only =
          let it = parse_of g w roots trees trees_count p v.trees lp allowed v.only.holds in
          record { holds = it; alone = λ u s. (counts_bounds IsParse 1 one).same (le_refl 1) u tree s it }

      -- the first m numbers are at the start of the buffer, if they fit
      first_written : (m : ℕ) → m ≡ room l₀ → l ≡ overwritten (bytes_of (take m (listing tree))) l₀
      unfolding room
      first_written m e =
          let numbers = take m (listing tree) in
          let zeroth : room l₀ - 0 ≡ m = omega arith in
          v.written.wrote
          ∙ ap (λ (n : ℕ). sets l₀ 0 (bytes_of (take n (listing tree)))) zeroth
          ∙ sets_front (bytes_of numbers) l₀ (omega (arith, bytes_long numbers, length-take m (listing tree)))

      pub answered_one : r ≤ room l₀ → Answered IsParse l₀ (One r) l
      unfolding Answered room
      answered_one fits =
          let all = take_all (room l₀) (listing tree) (omega (arith, v.written.next)) in
          (tree, only, omega (arith, v.written.next), omega (arith, fits), first_written (room l₀) refl ∙ ap (λ (x : List ℕ). overwritten (bytes_of x) l₀) all)

      pub answered_long : (place : ℕ) → place ≡ room l₀ → room l₀ < r → Answered IsParse l₀ (Refused (refusal LongListing place)) l
      unfolding Answered room
      answered_long place e over = (tree, only, refl, e, omega (arith, v.written.next, over), first_written place e)

-- ---- no parse, or several

pub answered_none : (P : Tree → Type 0) (v : ℕ) (l : List ℕ) → Counts P v → v ≡ 0 → Answered P l None l
unfolding Answered Counts
answered_none P v l c e = (subst (Counts P) e c, refl)

pub answered_several : (P : Tree → Type 0) (v : ℕ) (l : List ℕ) → Counts P v → 1 < v → Answered P l Several l
unfolding Answered
answered_several P v l c h = ((counts_bounds P v c).two (omega arith), refl)

-- ---- the chart

pub chart_after : (tables w before chart : List ℕ) → CountedBy (theory_of tables) w everything chart → length chart ≡ length before
    → chart_need tables (length w) ≤ length chart → ((k : ℕ) → chart_need tables (length w) ≤ k → get_or chart k 0 ≡ get_or before k 0)
    → ChartAfter (parsing_by tables w) before chart
chart_after tables w before chart counted e enough b =
    let n = chart_need tables (length w) in
    record {
      entries = take n chart;
      long = length-take-le n chart enough;
      counted = counted_front (λ (p d i j : ℕ) (f : Forest). Spells (theory_of tables) w p f d i j) (arity_in (counts_of tables)) (length (counts_of tables)) (length w) everything chart counted;
      whole = overwritten_of 0 n chart before e enough b;
    }
