-- The refusals before a text is parsed: 1 to 9, 10 and 20, each exactly under its condition.
use Prim.Native.Nat.{ℕ, ◌≤◌, ◌<◌}
use mathlib.Core.Path.{◌≡◌, refl, sym, ◌∙◌, ap}
use mathlib.Core.List.{List, [], ◌∷◌}
use mathlib.Core.Logic.{◌↔◌, ◌⊎◌, inl, inr}
use native.Mathlib.Omega.{arith}
use lib.ListN.{length}
use Rattle.chart.specs.Layout.{text_limit}
use Rattle.refusal.proofs.VerdictLaws.{FirstIn, here, there, refused_not_accepted, order_first}
use Rattle.refusal.specs.Verdict.{Verdict, accepted, refused}
use Rattle.std.specs.Prelude.{Err}
use Rattle.engine.proofs.RefusalsLaws.{long_text, short_text, text_short, text_long, short_chart, long_chart, chart_short}
use Rattle.engine.specs.Refusals.{too_long}
use Rattle.parse.specs.Outcome.{needed, too_short, refusal}
use Rattle.priority.proofs.RefusalLaws.{checked_number}
use Rattle.priority.specs.Check.{checked}
use Rattle.refusal.specs.declared.Fault.TheVariants.{LongText, ShortChart}
use Rattle.refusal.specs.declared.Refusal.{Refusal}
use Rattle.refusal.specs.Fault.{number_of}

module _ (b w chart : List ℕ) where
  abbrev lines : List Verdict
  lines = checked b ∷ too_long w ∷ too_short b w chart ∷ []

  by_grammar : {r : Refusal} → FirstIn lines r → number_of r.fault ≤ 9 → checked b ≡ Err r
  by_grammar (here e) small = e
  by_grammar (there a (here e)) small = absurd (omega (arith, (text_long w e).0))
  by_grammar (there a (there c (here e))) small = absurd (omega (arith, (chart_short (needed b (length w)) chart e).0))
  by_grammar (there a (there c (there _ e))) small = elim e [ ]

  by_ten : {r : Refusal} → FirstIn lines r → number_of r.fault ≡ 10 → (checked b ≡ accepted) × (text_limit < length w) × (r.place ≡ length w)
  by_ten (here e) ten = absurd (omega (arith, checked_number b e))
  by_ten (there a (here e)) ten = let h = text_long w e in (a, h.1, h.2)
  by_ten (there a (there c (here e))) ten = absurd (omega (arith, (chart_short (needed b (length w)) chart e).0))
  by_ten (there a (there c (there _ e))) ten = elim e [ ]

  by_twenty : {r : Refusal} → FirstIn lines r → number_of r.fault ≡ 20 → (checked b ≡ accepted) × (length w ≤ text_limit) × (r.place ≡ needed b (length w)) × (length chart < r.place)
  by_twenty (here e) twenty = absurd (omega (arith, checked_number b e))
  by_twenty (there a (here e)) twenty = absurd (omega (arith, (text_long w e).0))
  by_twenty (there a (there c (here e))) twenty = let h = chart_short (needed b (length w)) chart e in (a, text_short w c, h.1, h.2)
  by_twenty (there a (there c (there _ e))) twenty = elim e [ ]

  by_number : {r : Refusal} → FirstIn lines r → number_of r.fault ≤ 20
  by_number (here e) = omega (arith, checked_number b e)
  by_number (there a (here e)) = omega (arith, (text_long w e).0)
  by_number (there a (there c (here e))) = omega (arith, (chart_short (needed b (length w)) chart e).0)
  by_number (there a (there c (there _ e))) = elim e [ ]

  first_line : {r : Refusal} → refusal b w chart ≡ Err r → FirstIn lines r
  unfolding refusal
  first_line e = order_first lines e

  -- The refusals of the grammar.
  pub refusal_grammar : (r : Refusal) → number_of r.fault ≤ 9 → (refusal b w chart ≡ Err r) ↔ (checked b ≡ Err r)
  unfolding refusal
  refusal_grammar r small = ((λ e. by_grammar (first_line e) small), (λ h. rw h refl))

  -- 10: the text is over its limit; the place is its length.
  pub refusal_ten : (k : ℕ) → (refusal b w chart ≡ refused LongText k) ↔ ((checked b ≡ accepted) × (text_limit < length w) × (k ≡ length w))
  unfolding refusal
  refusal_ten k = ((λ e. by_ten (first_line e) refl), (λ (e, long, place). rw (e, long_text w long) (ap (λ (n : ℕ). refused LongText n) (sym place))))

  -- 20: the chart is too short; the place is its need.
  pub refusal_twenty : (k : ℕ) → (refusal b w chart ≡ refused ShortChart k) ↔ ((checked b ≡ accepted) × (length w ≤ text_limit) × (k ≡ needed b (length w)) × (length chart < k))
  unfolding refusal
  refusal_twenty k = (
    (λ e. by_twenty (first_line e) refl),
    (λ (e, short, place, less). rw (e, short_text w short, short_chart (needed b (length w)) chart (omega arith)) (ap (λ (n : ℕ). refused ShortChart n) (sym place))),
  )

  -- There is no other number.
  pub refusal_number : {r : Refusal} → refusal b w chart ≡ Err r → number_of r.fault ≤ 20
  refusal_number e = by_number (first_line e)

  by_text : {r : Refusal} → FirstIn lines r → checked b ≡ accepted → (number_of r.fault ≡ 10) ⊎ (number_of r.fault ≡ 20)
  by_text (here e) a = refused_not_accepted _ (sym e ∙ a)
  by_text (there a (here e)) _ = inl (text_long w e).0
  by_text (there a (there c (here e))) _ = inr (chart_short (needed b (length w)) chart e).0
  by_text (there a (there c (there _ e))) _ = elim e [ ]

  -- Where the grammar is accepted, 10 and 20 are left.
  pub refusal_text : {r : Refusal} → checked b ≡ accepted → refusal b w chart ≡ Err r → (number_of r.fault ≡ 10) ⊎ (number_of r.fault ≡ 20)
  refusal_text a e = by_text (first_line e) a

  -- What makes a text readable: none of them.
  pub record Readable : Type 0 where
    pub accepted : checked b ≡ accepted
    pub short : length w ≤ text_limit
    pub enough : needed b (length w) ≤ length chart

  pub readable_accepted : Readable → refusal b w chart ≡ accepted
  unfolding refusal
  readable_accepted h = rw (h.accepted, short_text w h.short, long_chart (needed b (length w)) chart h.enough) refl
