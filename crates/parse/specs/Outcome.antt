-- The promise of the operation "reading a text" (01; demand 3), stated once, for every grammar, text, chart and buffer.
use Rattle.std.specs.Prelude.{ℕ, List, [], ◌∷◌, length}
use Rattle.chart.specs.Layout.{chart_bytes}
use Rattle.engine.specs.Outcome.{Parsing, UnlessRefused}
use Rattle.engine.specs.declared.Answer.{Answer}
use Rattle.engine.specs.Refusals.{too_long, chart_too_short}
use Rattle.refusal.specs.Verdict.{in_order, Verdict}
use Rattle.refusal.specs.declared.Refusal.{Refusal}
use Rattle.layout.specs.Layout.{productions, argument_count}
use Rattle.flatten.specs.Reading.{Reading, EntryList}
use Rattle.priority.specs.Check.{checked}

-- how many bytes the chart of a text of n characters needs: 01's A × (n + 1) × (n + 2) / 2
unfoldable pub needed : List ℕ → ℕ → ℕ
needed b n = chart_bytes (argument_count b) (productions b) n

-- 20 by the need of a grammar
abbrev pub too_short : (b w chart : List ℕ) → Verdict
too_short b w chart = chart_too_short (needed b (length w)) chart

-- The parses of the text w by grammar b, and the lists of trees that the entries of its chart count.
abbrev pub reading_by : (b w : List ℕ) → Parsing
reading_by b w = record { parse = Reading b w; entry = EntryList b w; arity = argument_count b; count = productions b; size = length w }

-- The refusals before a text is parsed, in order: the grammar's, 10, 20.
unfoldable pub refusal : (b w chart : List ℕ) → Verdict
refusal b w chart = in_order (checked b ∷ too_long w ∷ too_short b w chart ∷ [])

-- By one of them nothing is changed. Otherwise the answer and every lent byte afterwards are those of the grammar's own trees: chart and buffer held c₀ and l₀
-- before, and hold c and l afterwards.
unfoldable pub Outcome : (b w c₀ l₀ : List ℕ) → Answer Refusal → (c l : List ℕ) → Type 0
Outcome b w c₀ l₀ r c l = UnlessRefused (refusal b w c₀) (reading_by b w) c₀ l₀ r c l

-- For a grammar that is accepted, 10 and 20 are left.
unfoldable pub AcceptedOutcome : (b w c₀ l₀ : List ℕ) → Answer Refusal → (c l : List ℕ) → Type 0
AcceptedOutcome b w c₀ l₀ r c l = UnlessRefused (in_order (too_long w ∷ too_short b w c₀ ∷ [])) (reading_by b w) c₀ l₀ r c l
