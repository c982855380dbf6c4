-- The refusals of a text and of a chart (01, "Refused because of the input").
use Rattle.std.specs.Prelude.{ℕ, List, [], ◌∷◌, ltb, length}
use Rattle.chart.specs.Layout.{text_limit, chart_need}
use Rattle.refusal.specs.Verdict.{refuse_if, in_order, Verdict}
use Rattle.refusal.specs.declared.Fault.TheVariants.{LongText, ShortChart}

-- 10: the text is over its limit; the place is its length
unfoldable pub too_long : List ℕ → Verdict
too_long w = refuse_if (ltb text_limit (length w)) LongText (length w)

-- 20: the chart is too short; the place is how many bytes it needs
unfoldable pub chart_too_short : ℕ → List ℕ → Verdict
chart_too_short need chart = refuse_if (ltb (length chart) need) ShortChart need

-- both in order, for a text that is parsed by flat tables
unfoldable pub text_refusal : (tables w chart : List ℕ) → Verdict
text_refusal tables w chart = in_order (too_long w ∷ chart_too_short (chart_need tables (length w)) chart ∷ [])
