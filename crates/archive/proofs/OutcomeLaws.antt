-- What the tables promise, carried to the grammar that a flat text says.
use Prim.Native.Nat.{ℕ, ◌+◌, ◌-◌, ◌<◌}
use mathlib.Core.Bool.{Bool, false}
use mathlib.Core.List.{List}
use mathlib.Core.Logic.{inl, inr, ⊎_elim}
use mathlib.Core.Path.{◌≡◌, refl, sym, ◌∙◌, ap, subst}
use native.Mathlib.Omega.{arith}
use lib.ListN.{length, get_or}
use Rattle.archive.proofs.RootLaws.{root_tables, root_grammar}
use Rattle.archive.proofs.TreesLaws.{root_number_lem, arity_of, trees_same}
use Rattle.archive.specs.Outcome.{root_class, line_arity, trees_of, flat_refusal, FlatOutcome, GrammarOutcome}
use Rattle.ccg.proofs.TablesLaws.{table_of_production, table_length}
use Rattle.ccg.specs.Ccg.{Class, Line}
use Rattle.ccg.specs.Tables.{table_class, table_grammar}
use Rattle.charset.specs.Set.{characters}
use Rattle.chart.specs.Layout.{chart_need, chart_bytes}
use Rattle.engine.proofs.SameParsingLaws.{chart_bytes_same, unless_same}
use Rattle.engine.specs.Outcome.{UnlessRefused}
use Rattle.engine.specs.declared.Answer.{Answer}
use Rattle.engine.specs.Refusals.{text_refusal}
use Rattle.engine.specs.Roots.{parsing_by, TablesOutcome}
use Rattle.form.specs.Form.{Says}
use Rattle.refusal.proofs.VerdictLaws.{first_same, same_refusal as equal_refusal}
use Rattle.refusal.specs.Verdict.{refuse_if, unless_refused, Verdict, accepted}
use Rattle.layout.specs.Limits.{production_limit}
use Rattle.load.specs.Absent.{absent_at, absent_in, absent_names}
use Rattle.load.specs.Check.{lines_answer, Loaded}
use Rattle.tables.specs.Layout.{root_slot, counts_of, arity_in, takes_production, ParserTables}
use Rattle.tables.specs.Put.{ClassPut}
use Rattle.theory.specs.Tree.{production_number}
use Rattle.std.specs.Prelude.{Result, Ok, Err}
use Rattle.refusal.specs.declared.Refusal.{Refusal}
use Rattle.refusal.specs.declared.Fault.TheVariants.{NoLine}
use Rattle.engine.specs.declared.Answer.TheVariants.{Refused}

-- ---- 28 for the root

-- classes with the same numbers of lines have the same names of absent ones
absent_same : (count : ℕ) (cc dd : Class) → ((q : ℕ) → q < production_limit → cc (production_number q) ≡ dd (production_number q)) → absent_in count cc ≡ absent_in count dd
unfolding absent_in absent_at
absent_same count cc dd e =
    first_same (absent_at count cc) (absent_at count dd) (production_limit - count)
    (λ k l. ap (λ (x : Bool). refuse_if x NoLine (production_number (count + k))) (e (count + k) (omega arith)))

module _ (t₀ t : List ℕ) (roots : List Bool) (chars subs : ℕ → Bool) (put : ClassPut root_slot chars subs t₀ t) (h : ParserTables t₀)
    (are : (q : ℕ) → q < production_limit → subs q ≡ get_or roots q false) where
  abbrev g : List Line
  g = table_grammar t₀

  rooted : (q : ℕ) → q < production_limit → takes_production t root_slot q ≡ get_or roots q false
  rooted q l = put.productions_are q l ∙ are q l

  pub tables_root : ParserTables t
  tables_root = root_tables t₀ t chars subs put h

  same : table_grammar t ≡ g
  same = root_grammar t₀ t chars subs put h

  count_is_lem : length (counts_of t) ≡ length g
  count_is_lem = sym (table_length t) ∙ ap (length {A = Line}) same

  -- what the code finds at the root's slot
  pub root_absent : (count : ℕ) → count ≡ length (counts_of t) → absent_in count (table_class t root_slot) ≡ absent_in (length g) (root_class roots)
  root_absent count e =
      ap (λ (n : ℕ). absent_in n (table_class t root_slot)) (e ∙ count_is_lem)
      ∙ absent_same (length g) (table_class t root_slot) (root_class roots)
      (λ q l. let back : production_number q - production_number 0 ≡ q = omega arith in
      table_of_production t root_slot (production_number q) (omega arith) (omega arith) ∙ ap (takes_production t root_slot) back ∙ rooted q l ∙ sym (root_number_lem roots q))

  module _ (named : absent_names g ≡ accepted) (w c₀ l₀ : List ℕ) where
    pub root_refused : (r : Refusal) → absent_in (length g) (root_class roots) ≡ Err r
        → GrammarOutcome g roots w c₀ l₀ (Refused r) c₀ l₀
    unfolding UnlessRefused flat_refusal
    root_refused r e = rw (named, e) (refl, refl, refl)

    module _ (many : length roots ≡ production_limit) (text : (k : ℕ) → get_or w k 0 < characters) (allowed : absent_in (length g) (root_class roots) ≡ accepted) where
      -- the refusals that are left are those of the tables
      same_refusal : text_refusal t w c₀ ≡ flat_refusal g roots w c₀
      unfolding text_refusal flat_refusal
      same_refusal =
          let need : chart_need t (length w) ≡ chart_bytes (line_arity g) (length g) (length w) =
          chart_bytes_same (arity_in (counts_of t)) (line_arity g) (length (counts_of t)) (length g) (length w) count_is_lem
          (λ p l. sym (ap (λ (x : List Line). line_arity x p) (sym same) ∙ arity_of t tables_root p (omega (arith, count_is_lem)))) in
          rw (named, allowed, need) refl

      pub root_carried : (r : Answer Refusal) (c l : List ℕ) → TablesOutcome t w c₀ l₀ r c l → GrammarOutcome g roots w c₀ l₀ r c l
      unfolding TablesOutcome
      root_carried r c l o =
          let named' : absent_names (table_grammar t) ≡ accepted = ap absent_names same ∙ named in
          let allowed' : absent_in (length (table_grammar t)) (root_class roots) ≡ accepted = ap (λ (x : List Line). absent_in (length x) (root_class roots)) same ∙ allowed in
          let trees = trees_same t tables_root named' w text roots many rooted allowed' in
          subst (λ (v : Verdict). UnlessRefused v (trees_of g roots w) c₀ l₀ r c l) same_refusal
          (subst (λ (x : List Line). UnlessRefused (text_refusal t w c₀) (trees_of x roots w) c₀ l₀ r c l) same
          (unless_same (parsing_by t w) (trees_of (table_grammar t) roots w) trees (text_refusal t w c₀) c₀ l₀ r c l o))

-- ---- the flat text

-- a loaded text with lines names no line that isn't there
pub loaded_named : (flat : List ℕ) (r : Result ℕ Refusal) (n : ℕ) (t : List ℕ) → Loaded flat r t → r ≡ Ok n → ParserTables t × (absent_names (table_grammar t) ≡ accepted) × Says flat (table_grammar t)
unfolding Loaded lines_answer
loaded_named flat r n t h e =
    ⊎_elim
    (λ (place, not, is). refused_not_lines (sym is ∙ e))
    (λ (readable, says, is). (readable, lines_accepted (absent_names (table_grammar t)) (length (table_grammar t)) n (sym is ∙ e), says))
    h
  where
    refused_not_lines : {A : Type 0} {r : Refusal} {n : ℕ} → ◌≡◌ {A = Result ℕ Refusal} (Err r) (Ok n) → A
    refused_not_lines e = let z : ◌≡◌ {A = ℕ} 0 1 = cc in absurd (omega arith)

    lines_accepted : (v : Verdict) (k n : ℕ) → unless_refused v (Ok k) ≡ Ok n → v ≡ accepted
    lines_accepted (Ok _) k n e = refl
    lines_accepted (Err r) k n e = refused_not_lines e

-- a refusal of the flat text is that of the outcome
pub flat_refused : (flat : List ℕ) (roots : List Bool) (w c₀ l₀ : List ℕ) (r : Result ℕ Refusal) (x : Refusal) (t : List ℕ) → Loaded flat r t → r ≡ Err x
    → FlatOutcome flat roots w c₀ l₀ (Refused x) c₀ l₀
unfolding Loaded lines_answer FlatOutcome UnlessRefused flat_refusal
flat_refused flat roots w c₀ l₀ r x t h e =
    ⊎_elim
    (λ (at, not, is). inl (at, not, answer_is (sym e ∙ is), refl, refl))
    (λ (readable, says, is). inr (table_grammar t, says, rw (names_refused (absent_names (table_grammar t)) (length (table_grammar t)) (sym is ∙ e)) (refl, refl, refl)))
    h
  where
    answer_is : {x y : Refusal} → ◌≡◌ {A = Result ℕ Refusal} (Err x) (Err y) → ◌≡◌ {A = Answer Refusal} (Refused x) (Refused y)
    answer_is e = ap (λ (z : Refusal). Refused z) (equal_refusal {B = ℕ} e)

    names_refused : {x : Refusal} (v : Verdict) (k : ℕ) → unless_refused v (Ok k) ≡ Err x → v ≡ Err x
    names_refused (Ok _) k e = refused_lines (sym e)
      where
        refused_lines : {A : Type 0} {x : Refusal} {n : ℕ} → ◌≡◌ {A = Result ℕ Refusal} (Err x) (Ok n) → A
        refused_lines e = let z : ◌≡◌ {A = ℕ} 0 1 = cc in absurd (omega arith)
    names_refused (Err y) k e = ap (λ (z : Refusal). Err z) (equal_refusal {B = ℕ} e)

pub flat_carried : (flat : List ℕ) (roots : List Bool) (w c₀ l₀ : List ℕ) (r : Answer Refusal) (c l t : List ℕ) → Says flat (table_grammar t)
    → GrammarOutcome (table_grammar t) roots w c₀ l₀ r c l → FlatOutcome flat roots w c₀ l₀ r c l
unfolding FlatOutcome
flat_carried flat roots w c₀ l₀ r c l t says o = inr (table_grammar t, says, o)
