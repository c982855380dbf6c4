-- A text byte by byte: where it is, and where it stops.
use Prim.Native.Nat.{ℕ, suc, ◌+◌, ◌≤◌, ◌<◌}
use mathlib.Core.Bool.{false, true}
use mathlib.Core.List.{List}
use mathlib.Core.Logic.{inl, inr}
use mathlib.Core.Path.{◌≡◌, refl, sym, ◌∙◌, ap, subst⁻¹}
use native.Mathlib.Omega.{arith}
use lib.ListN.{length, get_or, take}
use lib.Seq.{take-suc, take_all}
use Rattle.common.proofs.BoolLaws.{true_or_false}
use Rattle.common.specs.Zeros.{AllZero}
use Rattle.form.proofs.FormLaws.{end_says, stops_at, stops_short}
use Rattle.form.proofs.ReadLaws.{told_step, told_nothing}
use Rattle.form.proofs.StepsLaws.{steps_last}
use Rattle.form.specs.Form.{NotInForm}
use Rattle.form.specs.Read.{nothing, remember}
use Rattle.form.specs.Step.{start, step, steps, goes_on, may_end}
use Rattle.form.specs.declared.State.{State}
use Rattle.layout.specs.Limits.{production_limit}
use Rattle.load.proofs.HeldLaws.{held_step, held_nothing}
use Rattle.load.specs.Held.{Noted, Reached, end_answer, LinesRead}
use Rattle.refusal.specs.Verdict.{refused}
use Rattle.refusal.specs.declared.Fault.TheVariants.{Form}
use Rattle.std.specs.Prelude.{Ok}
use Rattle.tables.specs.Layout.{table_words}

-- ---- the bytes

-- one byte more
next_state : (text : List ℕ) (i : ℕ) (s : State) → i < length text → s ≡ steps start (take i text) → step s (get_or text i 0) ≡ steps start (take (i + 1) text)
next_state text i s l e =
    let up : suc i ≡ i + 1 = omega arith in
    rw (← up, take-suc text i 0 l, steps_last start (take i text) (get_or text i 0), e) refl

pub reached_none : (text t c : List ℕ) → AllZero table_words t → length c ≡ production_limit → Reached text 0 start t c
unfolding steps goes_on
reached_none text t c zero many =
    record { within = omega arith; state = refl; on = refl; memory = nothing; told = told_nothing; held = held_nothing t c zero many }

pub reached_more : (text : List ℕ) (i : ℕ) (s : State) (t₀ c₀ t c : List ℕ) → Reached text i s t₀ c₀ → i < length text → goes_on (step s (get_or text i 0)).spot ≡ true
    → Noted s.line s.argument s.spot (get_or text i 0) t₀ c₀ t c → Reached text (i + 1) (step s (get_or text i 0)) t c
reached_more text i s t₀ c₀ t c h l on noted =
    let b = get_or text i 0 in
    let up : suc i ≡ i + 1 = omega arith in
    record {
      within = omega arith;
      state = next_state text i s l h.state;
      on = on;
      memory = remember s.spot h.memory b;
      told = rw (← up, take-suc text i 0 l) (told_step s h.memory (take i text) b h.told on);
      held = held_step s h.memory (take i text) t₀ c₀ t c b h.told on h.held noted;
    }

-- ---- where it stops

module _ (text : List ℕ) (i : ℕ) (s : State) (t c : List ℕ) (h : Reached text i s t c) where
  -- before the end: no text goes on behind the next byte
  pub reached_off : i < length text → goes_on (step s (get_or text i 0)).spot ≡ false → LinesRead text (refused Form i) t c
  unfolding LinesRead
  reached_off l stop =
      let up : suc i ≡ i + 1 = omega arith in
      let off : goes_on (steps start (take (suc i) text)).spot ≡ false = rw (up, ← (next_state text i s l h.state)) stop in
      (refl, stops_at text i l (rw (← h.state) h.on) off)

  module _ (past : length text ≤ i) where
    whole : take i text ≡ text
    whole = take_all i text past

    ended : steps start text ≡ s
    ended = ap (steps start) (sym whole) ∙ sym h.state

    -- at the end, where it may not end
    stopped_short : may_end s ≡ false → NotInForm text i
    stopped_short e =
        let same : i ≡ length text = omega (arith, h.within) in
        subst⁻¹ (λ (k : ℕ). NotInForm text k) same (stops_short text (rw ended h.on) (rw ended e))

    -- and where it may
    stopped_whole : may_end s ≡ true → LinesRead text (Ok s.line) t c
    unfolding LinesRead
    stopped_whole e = (h.memory, h.held, end_says s h.memory text (rw whole at h.told) e, h.told.line)

    pub reached_end : LinesRead text (end_answer i s) t c
    unfolding end_answer LinesRead
    reached_end = elim (true_or_false (may_end s)) [ inl e ↦ rw e (stopped_whole e) | inr e ↦ rw e (refl, stopped_short e) ]
