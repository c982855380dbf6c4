-- A grammar with ranges turned round (02, [3]) reads every text with the same outcome: the answer, the chart and the listing.
use Prim.Native.Nat.{ℕ}
use mathlib.Core.Path.{◌≡◌, refl, ap₂, subst}
use mathlib.Core.List.{List, [], ◌∷◌}
use lib.ListN.{length}
use Rattle.engine.proofs.SameParsingLaws.{SameParsing, chart_bytes_same, unless_same}
use Rattle.engine.specs.Outcome.{UnlessRefused}
use Rattle.engine.specs.declared.Answer.{Answer}
use Rattle.engine.specs.Refusals.{too_long, chart_too_short}
use Rattle.flatten.proofs.TurnedLaws.{turned_reading, turned_entry}
use Rattle.grammar.proofs.SameFrontLaws.{same_productions, same_count}
use Rattle.grammar.proofs.TurnedLaws.{turned_front}
use Rattle.grammar.specs.Turned.{TurnedRound}
use Rattle.refusal.specs.Verdict.{in_order, Verdict}
use Rattle.refusal.specs.declared.Refusal.{Refusal}
use Rattle.layout.specs.Layout.{productions, argument_count}
use Rattle.parse.specs.Outcome.{needed, reading_by, refusal, Outcome}
use Rattle.priority.proofs.TurnedLaws.{turned_checked}

module _ (b c : List ℕ) (t : TurnedRound b c) where
  pub turned_chart_bytes : (n : ℕ) → needed c n ≡ needed b n
  unfolding needed
  turned_chart_bytes n = chart_bytes_same (argument_count c) (argument_count b) (productions c) (productions b) n (same_productions b c (turned_front b c t)) (same_count b c (turned_front b c t))

  module _ (w : List ℕ) where
    pub turned_parsing : SameParsing (reading_by c w) (reading_by b w)
    turned_parsing =
        record {
          size = refl;
          count = same_productions b c (turned_front b c t);
          arity = same_count b c (turned_front b c t);
          parse = turned_reading b c t w;
          entry = λ p d i j lp ld ij jn f. turned_entry b c t w p d i j lp ld f;
        }

    turned_refusal : (chart : List ℕ) → refusal c w chart ≡ refusal b w chart
    unfolding refusal
    turned_refusal chart = ap₂ (λ (v : Verdict) (n : ℕ). in_order (v ∷ too_long w ∷ chart_too_short n chart ∷ [])) (turned_checked b c t) (turned_chart_bytes (length w))

    -- What is an outcome by the one is one by the other.
    pub turned_outcome : (c₀ l₀ : List ℕ) (r : Answer Refusal) (d l : List ℕ) → Outcome c w c₀ l₀ r d l → Outcome b w c₀ l₀ r d l
    unfolding Outcome
    turned_outcome c₀ l₀ r d l h =
        unless_same (reading_by c w) (reading_by b w) turned_parsing (refusal b w c₀) c₀ l₀ r d l
        (subst (λ (v : Verdict). UnlessRefused v (reading_by c w) c₀ l₀ r d l) (turned_refusal c₀) h)
