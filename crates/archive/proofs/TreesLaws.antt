-- The trees that tables derive are those of the grammar that they hold, if no class names a line that isn't there.
use Prim.Native.Nat.{ℕ, zero, suc, ◌-◌, ◌≤◌, ◌<◌}
use mathlib.Core.Bool.{Bool, false, true, true≢false}
use mathlib.Core.List.{List}
use mathlib.Core.Logic.{◌↔◌, by_cases}
use mathlib.Core.Path.{◌≡◌, refl, sym, ◌∙◌, ap, subst, subst⁻¹}
use native.Mathlib.Decide.{dec_lt}
use native.Mathlib.Nat.{le_refl}
use native.Mathlib.Omega.{arith}
use lib.Dec.{leb}
use lib.ListN.{length, get_or, get_or-eq_default}
use lib.Seq.{slice, take-length}
use borrow.Author.Tests.{le-leb, leb-true}
use Rattle.archive.specs.Outcome.{root_class, line_arity, trees_of}
use Rattle.ccg.proofs.TablesLaws.{table_of_character, table_between, table_of_production, table_above, table_length, table_numbered, table_production, table_terminal}
use Rattle.ccg.specs.Ccg.{Class, Line, no_line, no_class, is_terminal, Generated, Each}
use Rattle.ccg.specs.Tables.{table_class, table_line, table_grammar}
use Rattle.ccg.specs.Text.{number_limit}
use Rattle.charset.specs.Set.{characters}
use Rattle.common.proofs.BoolLaws.{and_first_true, and_second_true}
use Rattle.common.proofs.ListLaws.{length_tabulate, get_d_tabulate}
use Rattle.engine.proofs.SameParsingLaws.{SameParsing}
use Rattle.engine.specs.Roots.{ParseBy, parsing_by}
use Rattle.refusal.proofs.VerdictLaws.{first_all}
use Rattle.refusal.specs.Verdict.{accepted}
use Rattle.layout.specs.Limits.{production_limit}
use Rattle.load.proofs.NamesLaws.{class_names}
use Rattle.load.specs.Absent.{absent_in, absent_in_argument, absent_in_line, absent_in_line_at, absent_names}
use Rattle.tables.proofs.LayoutLaws.{counts_few}
use Rattle.tables.specs.Layout.{slot, root_slot, counts_of, arity_in, takes_char, takes_production, ParserTables}
use Rattle.tables.specs.Theory.{theory_of}
use Rattle.theory.proofs.SpellsLaws.{spells_yield, derived_spells}
use Rattle.theory.specs.Grammar.{Grammar, Spells, Stands, Derived, DerivedAt, Parse}
use Rattle.theory.specs.Tree.{Tree, leaf, node, Forest, none, ◌▷◌, production_number, yield, yields}

-- ---- names of lines that are there

argument_names : (g : List Line) → absent_names g ≡ accepted → (p i : ℕ) → p < length g → i < length (get_or g p no_line).arguments → absent_in (length g) (get_or (get_or g p no_line).arguments i no_class) ≡ accepted
unfolding absent_names absent_in_line_at absent_in_line absent_in_argument
argument_names g e p i lp li =
    let l = get_or g p no_line in
    first_all (absent_in_argument (length g) l) (length l.arguments) (first_all (absent_in_line_at g) (length g) e p lp) i li

pub root_number_lem : (roots : List Bool) (q : ℕ) → root_class roots (production_number q) ≡ get_or roots q false
unfolding root_class
root_number_lem roots q =
    let e : production_number q - production_number 0 ≡ q = omega arith in
    rw (le-leb (production_number 0) (production_number q) (omega arith), e) refl

-- ---- the lines of the tables

module _ (t : List ℕ) (h : ParserTables t) where
  abbrev g : List Line
  g = table_grammar t

  abbrev count : ℕ
  count = length (counts_of t)

  pub line_of : (p : ℕ) → p < count → get_or g p no_line ≡ table_line t p
  unfolding table_grammar
  line_of p l = get_d_tabulate count (table_line t) p no_line l

  pub arity_of : (p : ℕ) → p < count → line_arity g p ≡ arity_in (counts_of t) p
  unfolding line_arity table_line
  arity_of p l = rw (line_of p l) (length_tabulate (arity_in (counts_of t) p) (λ i. table_class t (slot p i)))

  class_of : (p i : ℕ) → p < count → i < arity_in (counts_of t) p → get_or (get_or g p no_line).arguments i no_class ≡ table_class t (slot p i)
  unfolding table_line
  class_of p i l m = rw (line_of p l) (get_d_tabulate (arity_in (counts_of t) p) (λ j. table_class t (slot p j)) i no_class m)

  -- the number of a production that is there
  number_of : (s q : ℕ) → q < count → table_class t s (production_number q) ≡ takes_production t s q
  number_of s q l =
      let e : production_number q - production_number 0 ≡ q = omega arith in
      table_of_production t s (production_number q) (omega arith) (omega (arith, counts_few t h)) ∙ ap (takes_production t s) e

  -- a character is a terminal
  char_terminal : (c : ℕ) → c < characters → is_terminal g c ≡ true
  char_terminal c l = table_terminal t c (λ a b. omega arith)

  module _ (named : absent_names g ≡ accepted) where
    -- a terminal of a class is a character
    terminal_char : (p i c : ℕ) → p < count → i < arity_in (counts_of t) p → table_class t (slot p i) c ≡ true → is_terminal g c ≡ true → takes_char t (slot p i) c ≡ true
    unfolding line_arity
    terminal_char p i c lp li e terminal =
        let s = slot p i in
        by_cases (dec_lt c characters)
        (λ l. sym (table_of_character t s c l) ∙ e)
        (λ m. absurd (by_cases (dec_lt c (production_number 0))
        (λ l. true≢false (sym e ∙ table_between t s c (omega arith) l))
        (λ o. by_cases (dec_lt c number_limit)
        (λ l. by_cases (dec_lt c (production_number count))
        (λ there. true≢false (sym terminal ∙ table_production t c (omega arith) there))
        (λ no. let q = c - production_number 0 in
        let long = table_length t in
        let accepted = argument_names g named p i (omega arith) (omega (arith, arity_of p lp)) in
        let is : c ≡ production_number q = omega arith in
        true≢false (sym e ∙ ap (λ (x : Class). x c) (sym (class_of p i lp li)) ∙ ap (get_or (get_or g p no_line).arguments i no_class) is
        ∙ class_names (length g) (get_or (get_or g p no_line).arguments i no_class) accepted q (omega arith) (omega arith))))
        (λ l. true≢false (sym e ∙ table_above t s c (omega arith))))))

    -- ---- trees of the grammar are trees of the tables

    abbrev th : Grammar
    th = theory_of t

    mutual
      unfolding Generated Derived line_arity

      each_derived : (f : Forest) (p d : ℕ) → p < count → d ≤ arity_in (counts_of t) p → Each g (get_or g p no_line).arguments f d → Derived th p f d
      each_derived none p zero lp ld e = tt
      each_derived none p (suc d) lp ld e = absurd e
      each_derived (f ▷ u) p zero lp ld e = absurd e
      each_derived (f ▷ u) p (suc d) lp ld e =
          (each_derived f p d lp (omega arith) e.0, generated_derived u p d lp ld (subst (λ (cc : Class). Generated g cc u) (class_of p d lp ld) e.1))

      generated_derived : (u : Tree) (p d : ℕ) → p < count → d < arity_in (counts_of t) p → Generated g (table_class t (slot p d)) u → DerivedAt th p d u
      generated_derived (leaf c) p d lp ld e = terminal_char p d c lp ld e.0 e.1
      generated_derived (node q f) p d lp ld (there, own, has, each) =
          let lq : q < count = omega (arith, table_length t) in (
            lq,
            sym (number_of (slot p d) q lq) ∙ has,
            each_derived f q (arity_in (counts_of t) q) lq (le_refl (arity_in (counts_of t) q)) (subst (λ (n : ℕ). Each g (get_or g q no_line).arguments f n) (arity_of q lq) each),
          )

    -- ---- trees of the tables that spell a part of the text are trees of the grammar

    module _ (w : List ℕ) (text : (k : ℕ) → get_or w k 0 < characters) where
      mutual
        unfolding Generated Spells line_arity

        spells_each : (f : Forest) (p d i j : ℕ) → p < count → d ≤ arity_in (counts_of t) p → Spells th w p f d i j → Each g (get_or g p no_line).arguments f d
        spells_each none p zero i j lp ld s = tt
        spells_each none p (suc d) i j lp ld s = absurd s
        spells_each (f ▷ u) p zero i j lp ld s = absurd s
        spells_each (f ▷ u) p (suc d) i j lp ld s =
            (spells_each f p d i s.0 lp (omega arith) s.1, subst⁻¹ (λ (cc : Class). Generated g cc u) (class_of p d lp ld) (stands_generated u p d s.0 j lp ld s.2))

        -- a character of it is one of the text, so a byte
        stands_generated : (u : Tree) (p d m j : ℕ) → p < count → d < arity_in (counts_of t) p → Stands th w p d u m j → Generated g (table_class t (slot p d)) u
        stands_generated (leaf c) p d m j lp ld s =
            let byte : c < characters = omega (arith, text m, s.2) in
            (table_of_character t (slot p d) c byte ∙ s.3, char_terminal c byte)
        stands_generated (node q f) p d m j lp ld (lq, has, spells) = (
          omega (arith, table_length t),
          (table_numbered t).own q (omega (arith, table_length t)),
          number_of (slot p d) q lq ∙ has,
          subst⁻¹ (λ (n : ℕ). Each g (get_or g q no_line).arguments f n) (arity_of q lq) (spells_each f q (arity_in (counts_of t) q) m j lq (le_refl (arity_in (counts_of t) q)) spells),
        )

      -- what an entry of the chart counts
      pub table_lists : (p d i j : ℕ) → p < count → d ≤ arity_in (counts_of t) p → i ≤ j → j ≤ length w → (f : Forest)
          → Spells th w p f d i j ↔ (Each g (get_or g p no_line).arguments f d × (yields f ≡ slice i j w))
      table_lists p d i j lp ld lij lj f = (
        (λ s. (spells_each f p d i j lp ld s, spells_yield th w p f d i j s)),
        (λ (each, e). derived_spells th w p f d i j (each_derived f p d lp ld each) lij lj e),
      )

      -- ---- the parses

      module _ (roots : List Bool) (many : length roots ≡ production_limit) (rooted : (q : ℕ) → q < production_limit → takes_production t root_slot q ≡ get_or roots q false)
          (root_named : absent_in (length g) (root_class roots) ≡ accepted) where
        -- a character is none: the root has numbers of lines only, and only of such that are there
        leaf_none : (c : ℕ) → Generated g (root_class roots) (leaf c) → ⊥
        unfolding Generated root_class
        leaf_none c (has, terminal) =
            let q = c - production_number 0 in
            let above = leb-true (production_number 0) c (and_first_true (leb (production_number 0) c) (get_or roots q false) has) in
            let set = and_second_true (leb (production_number 0) c) (get_or roots q false) has in
            by_cases (dec_lt c (production_number count))
            (λ there. true≢false (sym terminal ∙ table_production t c above there))
            (λ no. by_cases (dec_lt q production_limit)
            (λ l. true≢false (sym set ∙ sym (root_number_lem roots q) ∙ class_names (length g) (root_class roots) root_named q (omega (arith, table_length t)) l))
            (λ m. true≢false (sym set ∙ get_or-eq_default roots false {n = q} (omega arith))))

        parse_generated : (p : ℕ) (f : Forest) → ParseBy t w (node p f) → Generated g (root_class roots) (node p f) × (yield (node p f) ≡ w)
        unfolding Parse Generated yield line_arity
        parse_generated p f (lp, root, derived, e) =
            let arity = arity_in (counts_of t) p in
            let spells = derived_spells th w p f arity 0 (length w) derived (omega arith) (le_refl (length w)) (e ∙ sym (take-length w)) in (
              (
                omega (arith, table_length t),
                (table_numbered t).own p (omega (arith, table_length t)),
                root_number_lem roots p ∙ sym (rooted p (omega (arith, counts_few t h))) ∙ root,
                subst⁻¹ (λ (n : ℕ). Each g (get_or g p no_line).arguments f n) (arity_of p lp) (spells_each f p arity 0 (length w) lp (le_refl arity) spells),
              ),
              e,
            )

        generated_parse : (p : ℕ) (f : Forest) → Generated g (root_class roots) (node p f) × (yield (node p f) ≡ w) → ParseBy t w (node p f)
        unfolding Parse Generated yield line_arity
        generated_parse p f ((there, own, has, each), e) =
            let lp : p < count = omega (arith, table_length t) in
            let arity = arity_in (counts_of t) p in (
              lp,
              rooted p (omega (arith, counts_few t h)) ∙ sym (root_number_lem roots p) ∙ has,
              each_derived f p arity lp (le_refl arity) (subst (λ (n : ℕ). Each g (get_or g p no_line).arguments f n) (arity_of p lp) each),
              e,
            )

        table_parses : (u : Tree) → ParseBy t w u ↔ (Generated g (root_class roots) u × (yield u ≡ w))
        unfolding Parse
        table_parses (leaf c) = ((λ never. absurd never), (λ (some, e). absurd (leaf_none c some)))
        table_parses (node p f) = (parse_generated p f, generated_parse p f)

        -- So what the tables promise is promised of the grammar.
        pub trees_same : SameParsing (parsing_by t w) (trees_of g roots w)
        trees_same =
            record {
              size = refl;
              count = sym (table_length t);
              arity = λ p l. sym (arity_of p (omega (arith, table_length t)));
              parse = table_parses;
              entry = λ p d i j lp ld lij lj f. let there : p < count = omega (arith, table_length t) in
                  table_lists p d i j there (omega (arith, arity_of p there)) lij lj f;
            }
