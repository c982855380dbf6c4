-- The trees that the flat tables of a grammar derive are those of the grammar without a conflict.
use Prim.Native.Nat.{ℕ, ◌≤◌, ◌<◌}
use mathlib.Core.Path.{◌≡◌, refl, sym, ◌∙◌}
use mathlib.Core.Bool.{Bool}
use mathlib.Core.List.{List}
use mathlib.Core.Logic.{◌↔◌}
use native.Mathlib.Omega.{arith}
use lib.Dec.{eqb}
use lib.ListN.{length, get_or}
use borrow.Author.Tests.{lt-ltb}
use Rattle.flatten.proofs.TestsLaws.{TestsAre, tests_lists, tests_parses}
use Rattle.flatten.specs.Flat.{may_stand}
use Rattle.flatten.specs.Reading.{Reading, EntryList}
use Rattle.flatten.specs.Tables.{FlatTables}
use Rattle.charset.specs.Set.{characters}
use Rattle.grammar.specs.Formed.{WellFormed}
use Rattle.layout.specs.Layout.{productions, start_sort, argument_count, result_sort}
use Rattle.tables.specs.Layout.{slot, root_slot, takes_production}
use Rattle.tables.specs.Theory.{theory_of}
use Rattle.theory.specs.Grammar.{Grammar, Spells, Parse}
use Rattle.theory.specs.Tree.{Tree, leaf, node, Forest}

-- parses stay parses where the same productions are allowed at the root
same_roots : (g : Grammar) (w : List ℕ) (roots roots' : ℕ → Bool) → ((p : ℕ) → p < g.count → roots p ≡ roots' p) → (u : Tree) → Parse g roots w u → Parse g roots' w u
unfolding Parse
same_roots g w roots roots' e (leaf c) h = absurd h
same_roots g w roots roots' e (node p f) h = (h.0, sym (e p h.0) ∙ h.1, h.2, h.3)

module _ (b : List ℕ) (formed : WellFormed b) (bytes : (k : ℕ) → get_or b k 0 < characters) (t : List ℕ) (tables : FlatTables b t) where
  -- a production may stand where the grammar lets it stand
  sub_test : (p d q : ℕ) → p < productions b → d < argument_count b p → q < productions b → takes_production t (slot p d) q ≡ may_stand b p d q
  sub_test p d q lp ld lq = tables.productions_are p d q lp ld (omega (arith, formed.framed.few_productions)) ∙ rw (lt-ltb q (productions b) lq) refl

  -- at the root if its result is the start sort
  root_test : (q : ℕ) → q < productions b → takes_production t root_slot q ≡ eqb (result_sort b q) (start_sort b)
  root_test q l = tables.roots_are q (omega (arith, formed.framed.few_productions)) ∙ rw (lt-ltb q (productions b) l) refl

  -- so the tables test what the grammar does
  tables_test : TestsAre b (theory_of t)
  tables_test =
      record {
        count_is = tables.count_is;
        arity_is = tables.counts_are;
        chars_are = tables.chars_are;
        subs_are = sub_test;
      }

  module _ (w : List ℕ) (text : (k : ℕ) → get_or w k 0 < characters) where
    -- what an entry of the chart counts
    pub book_lists : (p d i j : ℕ) → p < productions b → d ≤ argument_count b p → i ≤ j → j ≤ length w → (f : Forest)
        → Spells (theory_of t) w p f d i j ↔ EntryList b w p d i j f
    book_lists = tests_lists b formed bytes (theory_of t) tables_test w text

    -- the parses
    pub book_parses : (u : Tree) → Parse (theory_of t) (takes_production t root_slot) w u ↔ Reading b w u
    book_parses u =
        let g = theory_of t in
        let starts : ℕ → Bool = λ q. eqb (result_sort b q) (start_sort b) in
        let same : (q : ℕ) → q < g.count → takes_production t root_slot q ≡ starts q = λ q l. root_test q (omega (arith, tables_test.count_is)) in
        let (to, back) = tests_parses b formed bytes g tables_test w text u in
        (λ h. to (same_roots g w (takes_production t root_slot) starts same u h), λ r. same_roots g w starts (takes_production t root_slot) (λ q l. sym (same q l)) u (back r))
