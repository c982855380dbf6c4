-- The numbers of the refusals behind 27: 28 for names, and then 10 and 20.
use Prim.Native.Nat.{ℕ}
use mathlib.Core.Bool.{Bool}
use mathlib.Core.List.{List, [], ◌∷◌}
use mathlib.Core.Logic.{◌⊎◌, inl, inr}
use mathlib.Core.Path.{◌≡◌, ap}
use lib.ListN.{length}
use Rattle.archive.specs.Outcome.{root_class, line_arity, flat_refusal}
use Rattle.ccg.specs.Ccg.{Line}
use Rattle.chart.specs.Layout.{chart_bytes}
use Rattle.engine.specs.Refusals.{too_long, chart_too_short}
use Rattle.refusal.proofs.VerdictLaws.{FirstIn, here, there, order_first}
use Rattle.refusal.specs.Verdict.{Verdict}
use Rattle.std.specs.Prelude.{Err}
use Rattle.load.proofs.AbsentLaws.{class_number, names_number}
use Rattle.load.specs.Absent.{absent_in, absent_names}
use Rattle.refusal.specs.declared.Refusal.{Refusal}
use Rattle.engine.proofs.RefusalsLaws.{text_long, chart_short}
use Rattle.refusal.specs.Fault.{number_of}

-- one of the three
abbrev pub Numbers : ℕ → Type 0
Numbers n = (n ≡ 28) ⊎ ((n ≡ 10) ⊎ (n ≡ 20))

module _ (g : List Line) (roots : List Bool) (w c₀ : List ℕ) where
  abbrev need : ℕ
  need = chart_bytes (line_arity g) (length g) (length w)

  abbrev refusals : List Verdict
  refusals = absent_names g ∷ absent_in (length g) (root_class roots) ∷ too_long w ∷ chart_too_short need c₀ ∷ []

  first_number : (r : Refusal) → FirstIn refusals r → Numbers (number_of r.fault)
  first_number r (here e) = inl (ap number_of (names_number g r e))
  first_number r (there a (here e)) = inl (ap number_of (class_number (length g) (root_class roots) r e))
  first_number r (there a (there b (here e))) = inr (inl (text_long w e).0)
  first_number r (there a (there b (there c (here e)))) = inr (inr (chart_short need c₀ e).0)
  first_number r (there a (there b (there c (there _ e)))) = elim e [ ]

  pub flat_numbers : (r : Refusal) → flat_refusal g roots w c₀ ≡ Err r → Numbers (number_of r.fault)
  unfolding flat_refusal
  flat_numbers r e = first_number r (order_first refusals e)
