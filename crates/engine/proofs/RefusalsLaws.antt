-- 10 and 20, each exactly under its condition, and both in order.
use Prim.Native.Nat.{ℕ, ◌≤◌, ◌<◌}
use mathlib.Core.Path.{◌≡◌, refl}
use mathlib.Core.List.{List}
use native.Mathlib.Omega.{arith}
use lib.Dec.{ltb}
use lib.ListN.{length}
use borrow.Author.Tests.{ltb-true, ltb-false, lt-ltb, le-ltb}
use Rattle.chart.specs.Layout.{text_limit, chart_need, ChartFits}
use Rattle.engine.specs.Refusals.{too_long, chart_too_short, text_refusal}
use Rattle.refusal.proofs.VerdictLaws.{refuse_accepted, refuse_case}
use Rattle.refusal.specs.Verdict.{and_then, Verdict, accepted, refused}
use Rattle.std.specs.Prelude.{Ok, Err}
use Rattle.tables.specs.Layout.{ParserTables}
use Rattle.refusal.specs.declared.Fault.TheVariants.{LongText, ShortChart}
use Rattle.refusal.specs.Fault.{number_of}
use Rattle.refusal.specs.declared.Refusal.{Refusal}

-- ---- 10

module _ (w : List ℕ) where
  pub long_text : text_limit < length w → too_long w ≡ refused LongText (length w)
  unfolding too_long
  long_text h = rw (lt-ltb text_limit (length w) h) refl

  pub short_text : length w ≤ text_limit → too_long w ≡ accepted
  unfolding too_long
  short_text h = rw (le-ltb text_limit (length w) h) refl

  pub text_short : too_long w ≡ accepted → length w ≤ text_limit
  unfolding too_long
  text_short e = ltb-false text_limit (length w) (refuse_accepted _ LongText (length w) e)

  pub text_long : {r : Refusal} → too_long w ≡ Err r → (number_of r.fault ≡ 10) × (text_limit < length w) × (r.place ≡ length w)
  unfolding too_long
  text_long e =
      refuse_case (λ x. (number_of x.fault ≡ 10) × (text_limit < length w) × (x.place ≡ length w)) (ltb text_limit (length w)) LongText (length w) e
      (λ t. (refl, ltb-true text_limit (length w) t, refl))

-- ---- 20

module _ (need : ℕ) (chart : List ℕ) where
  pub short_chart : length chart < need → chart_too_short need chart ≡ refused ShortChart need
  unfolding chart_too_short
  short_chart h = rw (lt-ltb (length chart) need h) refl

  pub long_chart : need ≤ length chart → chart_too_short need chart ≡ accepted
  unfolding chart_too_short
  long_chart h = rw (le-ltb (length chart) need h) refl

  pub chart_short : {r : Refusal} → chart_too_short need chart ≡ Err r → (number_of r.fault ≡ 20) × (r.place ≡ need) × (length chart < r.place)
  unfolding chart_too_short
  chart_short e = refuse_case (λ x. (number_of x.fault ≡ 20) × (x.place ≡ need) × (length chart < x.place)) (ltb (length chart) need) ShortChart need e (λ t. (refl, refl, ltb-true (length chart) need t))

  pub chart_enough : chart_too_short need chart ≡ accepted → need ≤ length chart
  unfolding chart_too_short
  chart_enough e = ltb-false (length chart) need (refuse_accepted _ ShortChart need e)

-- ---- both in order

module _ (tables w chart : List ℕ) where
  pub refused_text : {r : Refusal} → too_long w ≡ Err r → text_refusal tables w chart ≡ Err r
  unfolding text_refusal
  refused_text e = rw e refl

  pub refused_chart : (need : ℕ) → need ≡ chart_need tables (length w) → too_long w ≡ accepted → length chart < need → text_refusal tables w chart ≡ refused ShortChart need
  unfolding text_refusal
  refused_chart need e a h = rw a (rw e (short_chart (chart_need tables (length w)) chart (omega arith)))

  pub refused_not : (need : ℕ) → need ≡ chart_need tables (length w) → too_long w ≡ accepted → need ≤ length chart → text_refusal tables w chart ≡ accepted
  unfolding text_refusal
  refused_not need e a h = rw a (long_chart (chart_need tables (length w)) chart (omega arith))

  -- without one of them the chart fits
  pub accepted_fits : ParserTables tables → text_refusal tables w chart ≡ accepted → ChartFits tables (length w) chart
  unfolding text_refusal
  accepted_fits h e =
      let both = accepted_both (too_long w) (chart_too_short (chart_need tables (length w)) chart) e in
      record { tables = h; short = text_short w both.0; long_enough = chart_enough (chart_need tables (length w)) chart both.1 }
    where
      accepted_both : (u v : Verdict) → and_then u v ≡ accepted → (u ≡ accepted) × (v ≡ accepted)
      accepted_both (Ok _) v e = (refl, e)
      accepted_both (Err r) v e = let z : ◌≡◌ {A = ℕ} 0 1 = cc in absurd (omega arith)
