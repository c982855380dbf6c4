-- The promise about the flat tables, carried to the grammar they come from.
use Prim.Native.Nat.{ℕ, ◌<◌}
use mathlib.Core.Path.{◌≡◌, refl, subst}
use mathlib.Core.List.{List, [], ◌∷◌}
use lib.ListN.{length, get_or}
use Rattle.flatten.proofs.BookLaws.{book_lists, book_parses}
use Rattle.flatten.specs.Tables.{FlatTables}
use Rattle.charset.specs.Set.{characters}
use Rattle.chart.specs.Layout.{chart_need}
use Rattle.engine.proofs.SameParsingLaws.{SameParsing, chart_bytes_same, unless_same}
use Rattle.engine.specs.Outcome.{UnlessRefused}
use Rattle.engine.specs.declared.Answer.{Answer}
use Rattle.engine.specs.Refusals.{too_long, chart_too_short, text_refusal}
use Rattle.engine.specs.Roots.{parsing_by, TablesOutcome}
use Rattle.grammar.specs.Formed.{WellFormed}
use Rattle.refusal.specs.Verdict.{in_order}
use Rattle.refusal.specs.declared.Refusal.{Refusal}
use Rattle.layout.specs.Layout.{productions, argument_count}
use Rattle.parse.specs.Outcome.{needed, reading_by, AcceptedOutcome}
use Rattle.tables.specs.Layout.{counts_of, arity_in}

module _ (b : List ℕ) (formed : WellFormed b) (bytes : (k : ℕ) → get_or b k 0 < characters) (t : List ℕ) (flat : FlatTables b t) where
  pub same_needed : (n : ℕ) → chart_need t n ≡ needed b n
  unfolding needed
  same_needed n = chart_bytes_same (arity_in (counts_of t)) (argument_count b) (length (counts_of t)) (productions b) n flat.count_is flat.counts_are

  module _ (w : List ℕ) (text : (k : ℕ) → get_or w k 0 < characters) where
    -- the tables' trees are the grammar's
    pub tables_same : SameParsing (parsing_by t w) (reading_by b w)
    tables_same =
        record {
          size = refl;
          count = flat.count_is;
          arity = flat.counts_are;
          parse = book_parses b formed bytes t flat w text;
          entry = book_lists b formed bytes t flat w text;
        }

    -- the whole promise
    pub outcome_carried : (c₀ l₀ : List ℕ) (r : Answer Refusal) (c l : List ℕ) → TablesOutcome t w c₀ l₀ r c l → AcceptedOutcome b w c₀ l₀ r c l
    unfolding TablesOutcome AcceptedOutcome text_refusal
    outcome_carried c₀ l₀ r c l h =
        subst (λ (n : ℕ). UnlessRefused (in_order (too_long w ∷ chart_too_short n c₀ ∷ [])) (reading_by b w) c₀ l₀ r c l) (same_needed (length w))
        (unless_same (parsing_by t w) (reading_by b w) tables_same (text_refusal t w c₀) c₀ l₀ r c l h)
