-- A grammar's own flat text: read by it, texts have the readings that they have by the grammar.
use Prim.Native.Nat.{ℕ, ◌-◌, ◌≤◌, ◌<◌}
use mathlib.Core.Bool.{false, ◌&&◌, true≢false}
use mathlib.Core.List.{List}
use mathlib.Core.Logic.{◌↔◌, by_cases}
use mathlib.Core.Path.{◌≡◌, refl, sym, ◌∙◌, ap, fun_ext, subst, subst⁻¹}
use native.Mathlib.Decide.{dec_lt}
use native.Mathlib.Omega.{arith}
use lib.Dec.{ltb, eqb}
use lib.ListN.{length, get_or, get_or-eq_default}
use lib.Seq.{slice}
use borrow.Author.Tests.{lt-ltb, le-ltb, le-leb, lt-leb}
use Rattle.archive.proofs.ExactLaws.{said_outcome}
use Rattle.archive.proofs.TreesLaws.{root_number_lem}
use Rattle.archive.specs.Outcome.{root_class, line_arity, trees_of, flat_refusal, FlatOutcome}
use Rattle.ccg.specs.Ccg.{Class, Line, no_line, no_class, Generated, Each}
use Rattle.ccg.specs.Text.{grammar_text}
use Rattle.charset.specs.Set.{characters}
use Rattle.chart.specs.Layout.{chart_bytes}
use Rattle.common.proofs.ListLaws.{length_tabulate, get_d_tabulate}
use Rattle.engine.proofs.SameParsingLaws.{SameParsing, chart_bytes_same, unless_same}
use Rattle.engine.specs.Outcome.{UnlessRefused}
use Rattle.engine.specs.declared.Answer.{Answer}
use Rattle.flatten.proofs.FlatLaws.{flat_length, flat_arguments, flat_class_at, flat_trees, flat_lists}
use Rattle.flatten.proofs.FlatWrittenLaws.{flat_written}
use Rattle.flatten.proofs.TableTextLaws.{flat_of_production}
use Rattle.flatten.specs.Flat.{is_production, flat_class, flat_grammar, plain_class}
use Rattle.flatten.specs.Reading.{Reading, EntryList}
use Rattle.form.specs.Form.{Writable, Says}
use Rattle.grammar.proofs.ArgumentLaws.{sort_no_class}
use Rattle.grammar.specs.Formed.{WellFormed}
use Rattle.refusal.specs.Verdict.{Verdict, accepted}
use Rattle.refusal.specs.declared.Refusal.{Refusal}
use Rattle.layout.specs.Layout.{productions, start_sort, argument_count, result_sort}
use Rattle.layout.specs.Limits.{production_limit}
use Rattle.load.proofs.NamesLaws.{names_accepted, class_accepted}
use Rattle.load.specs.Absent.{absent_in, Names}
use Rattle.parse.specs.Outcome.{needed, reading_by, refusal, Outcome}
use Rattle.priority.proofs.CheckLaws.{accepted_formed}
use Rattle.priority.specs.Check.{checked}
use Rattle.theorems.specs.Theorems.{start_entries}
use Rattle.theory.specs.Tree.{Tree, Forest, production_number, yield, yields}

module _ (b : List ℕ) (bytes : (k : ℕ) → get_or b k 0 < characters) (good : checked b ≡ accepted) where
  abbrev formed : WellFormed b
  formed = accepted_formed b good

  abbrev g : List Line
  g = flat_grammar b

  arity_is_lem : (p : ℕ) → p < productions b → line_arity g p ≡ argument_count b p
  unfolding line_arity
  arity_is_lem p l = rw (flat_arguments b p l) (length_tabulate (argument_count b p) (flat_class b p))

  -- ---- its text says it

  writable : Writable g
  unfolding line_arity
  writable =
      record {
        some = omega (arith, flat_length b, formed.framed.some_production);
        few = omega (arith, flat_length b, formed.framed.few_productions);
        few_arguments = λ p l. let there : p < productions b = omega (arith, flat_length b) in omega (arith, arity_is_lem p there, formed.framed.few_arguments p there);
        form = flat_written b formed bytes;
      }

  pub own_says : Says (grammar_text g) g
  own_says = record { writable = writable; is_text = refl }

  -- ---- no class and no entry names a line that isn't there

  no_names : (p i q : ℕ) → Names g p i q → ⊥
  unfolding line_arity
  no_names p i q h =
      let there : p < productions b = omega (arith, flat_length b, h.line) in
      let li : i < argument_count b p = omega (arith, arity_is_lem p there, h.argument) in
      let back : production_number q - production_number 0 ≡ q = omega arith in
      let none : ltb q (productions b) ≡ false = le-ltb q (productions b) (omega (arith, flat_length b, h.absent)) in
      let class : get_or (get_or g p no_line).arguments i no_class ≡ flat_class b p i = rw (flat_arguments b p there) (flat_class_at b p i li) in
      true≢false (sym h.named ∙ ap (λ (cc : Class). cc (production_number q)) class ∙ flat_of_production b formed bytes p i (production_number q) (omega arith) ∙ rw (back, none) refl)

  entry_at : (q : ℕ) → q < production_limit → get_or (start_entries b) q false ≡ (ltb q (productions b) && eqb (result_sort b q) (start_sort b))
  entry_at q l = get_d_tabulate production_limit (λ r. ltb r (productions b) && eqb (result_sort b r) (start_sort b)) q false l

  root_accepted : absent_in (length g) (root_class (start_entries b)) ≡ accepted
  root_accepted =
      class_accepted (length g) (root_class (start_entries b))
      (λ q l h. root_number_lem (start_entries b) q ∙ entry_at q h ∙ rw (le-ltb q (productions b) (omega (arith, flat_length b))) refl)

  -- ---- the class of the root is that of the start sort

  plain_start : (n : ℕ) → plain_class b (start_sort b) n ≡ (is_production b n && eqb (result_sort b (n - production_number 0)) (start_sort b))
  unfolding plain_class
  plain_start n = rw (sort_no_class b formed (start_sort b) formed.framed.start_named) refl

  no_entry : (q : ℕ) → production_limit ≤ q → get_or (start_entries b) q false ≡ false
  no_entry q l = get_or-eq_default (start_entries b) false {n = q} (omega (arith, length_tabulate production_limit (λ r. ltb r (productions b) && eqb (result_sort b r) (start_sort b))))

  root_class_lem : root_class (start_entries b) ≡ plain_class b (start_sort b)
  unfolding root_class is_production
  root_class_lem =
      fun_ext λ n.
      let q = n - production_number 0 in
      let start = eqb (result_sort b q) (start_sort b) in
      let last = production_number (productions b) in
      let few = formed.framed.few_productions in
      by_cases (dec_lt n (production_number 0))
      (λ l. rw (plain_start n, lt-leb (production_number 0) n l) refl)
      (λ m. by_cases (dec_lt q production_limit)
      (λ l. let there : ltb n last ≡ ltb q (productions b) = by_cases (dec_lt q (productions b)) (λ k. lt-ltb n last (omega arith) ∙ sym (lt-ltb q (productions b) k)) (λ k. le-ltb n last (omega arith) ∙ sym (le-ltb q (productions b) (omega arith))) in
      rw (plain_start n, le-leb (production_number 0) n (omega arith), entry_at q l, there) refl)
      (λ o. rw (plain_start n, le-leb (production_number 0) n (omega arith), no_entry q (omega arith), le-ltb n last (omega arith)) refl))

  -- ---- the trees

  module _ (w : List ℕ) where
    own_parse : (t : Tree) → (Generated g (root_class (start_entries b)) t × (yield t ≡ w)) ↔ Reading b w t
    own_parse t =
        let trees = flat_trees b formed bytes (start_sort b) t in (
          (λ (some, e). let (built, free) = trees.1 (subst (λ (cc : Class). Generated g cc t) root_class_lem some) in record { built = built; free = free; spells = e }),
          (λ r. (subst⁻¹ (λ (cc : Class). Generated g cc t) root_class_lem (trees.0 (r.built, r.free)), r.spells)),
        )

    own_entry : (p d i j : ℕ) → p < productions b → d ≤ argument_count b p → (f : Forest) → (Each g (get_or g p no_line).arguments f d × (yields f ≡ slice i j w)) ↔ EntryList b w p d i j f
    own_entry p d i j lp ld f =
        let lists = flat_lists b formed bytes p d lp ld f in (
          (λ (each, e). let h = lists.1 each in record { built = h.built; free = h.free; apart = h.apart; spells = e }),
          (λ h. (lists.0 (record { built = h.built; free = h.free; apart = h.apart }), h.spells)),
        )

    own_trees : SameParsing (trees_of g (start_entries b) w) (reading_by b w)
    own_trees =
        record {
          size = refl;
          count = flat_length b;
          arity = arity_is_lem;
          parse = own_parse;
          entry = λ p d i j lp ld lij lj f. own_entry p d i j lp ld f;
        }

    -- ---- the outcome

    own_refusal : (c₀ : List ℕ) → flat_refusal g (start_entries b) w c₀ ≡ refusal b w c₀
    unfolding flat_refusal refusal needed
    own_refusal c₀ =
        let need : chart_bytes (line_arity g) (length g) (length w) ≡ chart_bytes (argument_count b) (productions b) (length w) =
        chart_bytes_same (line_arity g) (argument_count b) (length g) (productions b) (length w) (flat_length b) arity_is_lem in
        rw ((names_accepted g).1 no_names, root_accepted, good, need) refl

    -- What is promised of the flat text is promised of the grammar.
    pub own_outcome : (c₀ l₀ : List ℕ) (r : Answer Refusal) (c l : List ℕ) → FlatOutcome (grammar_text g) (start_entries b) w c₀ l₀ r c l → Outcome b w c₀ l₀ r c l
    unfolding Outcome
    own_outcome c₀ l₀ r c l o =
        unless_same (trees_of g (start_entries b) w) (reading_by b w) own_trees (refusal b w c₀) c₀ l₀ r c l
        (subst (λ (v : Verdict). UnlessRefused v (trees_of g (start_entries b) w) c₀ l₀ r c l) (own_refusal c₀)
        (said_outcome (grammar_text g) (start_entries b) w c₀ l₀ r c l o g own_says))
