-- What an outcome of reading by a flat text says: refusals 27, 28, 10 and 20 exactly under their conditions, and otherwise the answer over the trees of the lines.
use Prim.Native.Nat.{ℕ, ◌+◌, ◌-◌, ◌≤◌, ◌<◌}
use mathlib.Core.Bool.{Bool, false, true, true≢false}
use mathlib.Core.List.{List, [], ◌∷◌}
use mathlib.Core.Logic.{◌↔◌, ◌⊎◌, inl, inr, ⊎_elim, by_cases}
use mathlib.Core.Path.{◌≡◌, refl, sym, ◌∙◌, ap, subst, ap₂}
use native.Mathlib.Decide.{dec_lt}
use native.Mathlib.Omega.{arith}
use lib.ListN.{length, get_or}
use Rattle.archive.proofs.RefusalLaws.{Numbers, flat_numbers}
use Rattle.archive.proofs.TreesLaws.{root_number_lem}
use Rattle.archive.specs.Outcome.{root_class, line_arity, trees_of, flat_refusal, FlatOutcome, LowestRoot, AllThere, GrammarOutcome}
use Rattle.ccg.specs.Ccg.{Line}
use Rattle.chart.specs.Layout.{text_limit, chart_bytes}
use Rattle.engine.proofs.AnswerLaws.{refused_is_long}
use Rattle.engine.proofs.RefusalsLaws.{long_text, short_text, text_short, text_long, short_chart, long_chart, chart_short}
use Rattle.engine.specs.Outcome.{Parsing, Parsed, UnlessRefused}
use Rattle.engine.specs.declared.Answer.{Answer}
use Rattle.engine.specs.Refusals.{too_long, chart_too_short}
use Rattle.form.proofs.FormLaws.{longest_unique, says_unique}
use Rattle.form.specs.Form.{Says, NotInForm}
use Rattle.refusal.proofs.VerdictLaws.{refuse_case, refuse_accepted, first_of, FirstIn, here, there, order_first}
use Rattle.refusal.specs.Verdict.{Verdict, accepted, refusal, refused}
use Rattle.layout.specs.Limits.{production_limit}
use Rattle.load.proofs.AbsentLaws.{class_number, names_number}
use Rattle.load.proofs.NamesLaws.{class_names, class_accepted, names_first, names_accepted}
use Rattle.load.specs.Absent.{absent_at, absent_in, absent_names, FirstNamed}
use Rattle.theory.specs.Tree.{production_number}
use Rattle.std.specs.Prelude.{Ok, Err}
use Rattle.refusal.specs.Fault.{number_of}
use Rattle.refusal.specs.declared.Fault.{Fault}
use Rattle.engine.specs.declared.Answer.TheVariants.{Refused}
use Rattle.engine.proofs.UniqueLaws.{same_refused}
use Rattle.refusal.specs.declared.Fault.TheVariants.{LongText, ShortChart, Form, NoLine}
use Rattle.refusal.specs.declared.Refusal.{Refusal}

-- ---- 28 for the root

module _ (g : List Line) (roots : List Bool) where
  abbrev root_verdict : Verdict
  root_verdict = absent_in (length g) (root_class roots)

  entries_there : root_verdict ≡ accepted → (q : ℕ) → length g ≤ q → q < production_limit → get_or roots q false ≡ false
  entries_there e q l h = sym (root_number_lem roots q) ∙ class_names (length g) (root_class roots) e q l h

  there_entries : ((q : ℕ) → length g ≤ q → q < production_limit → get_or roots q false ≡ false) → root_verdict ≡ accepted
  there_entries none = class_accepted (length g) (root_class roots) (λ q l h. root_number_lem roots q ∙ none q l h)

  refused_lowest : (r : Refusal) → root_verdict ≡ Err r → LowestRoot g roots r.place
  unfolding absent_in absent_at
  refused_lowest r e =
      let f = first_of (absent_at (length g) (root_class roots)) (production_limit - length g) e in
      let q = length g + f.index in
      let below = f.below in
      let (set, is) : (root_class roots (production_number q) ≡ true) × (r.place ≡ production_number q) =
      refuse_case (λ x. (root_class roots (production_number q) ≡ true) × (x.place ≡ production_number q)) (root_class roots (production_number q)) NoLine (production_number q) f.refused (λ t. (t, refl)) in
      record {
        q = q;
        absent = omega arith;
        number = omega arith;
        allowed = sym (root_number_lem roots q) ∙ set;
        is_place = is;
        lower = λ q' l h. let j = q' - length g in
            let same : length g + j ≡ q' = omega arith in
            let passed = refuse_accepted (root_class roots (production_number (length g + j))) NoLine (production_number (length g + j)) (f.before j (omega arith)) in
            sym (root_number_lem roots q') ∙ subst (λ (n : ℕ). root_class roots (production_number n) ≡ false) same passed;
      }

  lowest_unique : (k j : ℕ) → LowestRoot g roots k → LowestRoot g roots j → k ≡ j
  lowest_unique k j a b =
      by_cases (dec_lt a.q b.q) (λ l. absurd (true≢false (sym a.allowed ∙ b.lower a.q a.absent l)))
      (λ m. by_cases (dec_lt b.q a.q) (λ l. absurd (true≢false (sym b.allowed ∙ a.lower b.q b.absent l)))
      (λ o. omega (arith, a.is_place, b.is_place)))

  lowest_refused : (v : Verdict) → root_verdict ≡ v → (k : ℕ) → LowestRoot g roots k → v ≡ refused NoLine k
  lowest_refused (Ok _) e k f = absurd (true≢false (sym f.allowed ∙ entries_there e f.q f.absent f.number))
  lowest_refused (Err x) e k f =
      ap₂ (λ (y : Fault) (n : ℕ). refused y n) (class_number (length g) (root_class roots) x e) (lowest_unique x.place k (refused_lowest x e) f)

-- ---- the refusals in order

module _ (g : List Line) (roots : List Bool) (w c₀ : List ℕ) where
  abbrev need : ℕ
  need = chart_bytes (line_arity g) (length g) (length w)

  abbrev refusals : List Verdict
  refusals = absent_names g ∷ absent_in (length g) (root_class roots) ∷ too_long w ∷ chart_too_short need c₀ ∷ []

  all_there : absent_names g ≡ accepted → absent_in (length g) (root_class roots) ≡ accepted → AllThere g roots
  all_there a b = record { classes = (names_accepted g).0 a; entries = entries_there g roots b }

  there_all : AllThere g roots → (absent_names g ≡ accepted) × (absent_in (length g) (root_class roots) ≡ accepted)
  there_all h = ((names_accepted g).1 h.classes, there_entries g roots h.entries)

  abbrev Named : ℕ → Type 0
  Named k = FirstNamed g k ⊎ ((absent_names g ≡ accepted) × LowestRoot g roots k)

  by_name : (x : Refusal) → FirstIn refusals x → x.fault ≡ NoLine → Named x.place
  by_name x (here e) is = inl ((names_first g x.place).0 (subst (λ (y : Fault). absent_names g ≡ refused y x.place) is e))
  by_name x (there a (here e)) is = inr (a, refused_lowest g roots x e)
  by_name x (there a (there b (here e))) is = absurd (omega (arith, ap number_of is, (text_long w e).0))
  by_name x (there a (there b (there c (here e)))) is = absurd (omega (arith, ap number_of is, (chart_short need c₀ e).0))
  by_name x (there a (there b (there c (there _ e)))) is = elim e [ ]

  by_ten : (x : Refusal) → FirstIn refusals x → number_of x.fault ≡ 10 → AllThere g roots × (text_limit < length w) × (x.place ≡ length w)
  by_ten x (here e) is = absurd (omega (arith, ap number_of (names_number g x e)))
  by_ten x (there a (here e)) is = absurd (omega (arith, ap number_of (class_number (length g) (root_class roots) x e)))
  by_ten x (there a (there b (here e))) is = let h = text_long w e in (all_there a b, h.1, h.2)
  by_ten x (there a (there b (there c (here e)))) is = absurd (omega (arith, (chart_short need c₀ e).0))
  by_ten x (there a (there b (there c (there _ e)))) is = elim e [ ]

  by_twenty : (x : Refusal) → FirstIn refusals x → number_of x.fault ≡ 20 → AllThere g roots × (length w ≤ text_limit) × (x.place ≡ need) × (length c₀ < x.place)
  by_twenty x (here e) is = absurd (omega (arith, ap number_of (names_number g x e)))
  by_twenty x (there a (here e)) is = absurd (omega (arith, ap number_of (class_number (length g) (root_class roots) x e)))
  by_twenty x (there a (there b (here e))) is = absurd (omega (arith, (text_long w e).0))
  by_twenty x (there a (there b (there c (here e)))) is = let h = chart_short need c₀ e in (all_there a b, text_short w c, h.1, h.2)
  by_twenty x (there a (there b (there c (there _ e)))) is = elim e [ ]

  abbrev verdict : Verdict
  verdict = flat_refusal g roots w c₀

  pub refusal_named : (k : ℕ) → (verdict ≡ refused NoLine k) ↔ Named k
  unfolding flat_refusal
  refusal_named k = (
    (λ e. by_name (refusal NoLine k) (order_first refusals e) refl),
    ⊎_elim
        (λ f. rw ((names_first g k).1 f) refl)
        (λ (a, f). rw (a, lowest_refused g roots (absent_in (length g) (root_class roots)) refl k f) refl),
  )

  pub refusal_ten : (k : ℕ) → (verdict ≡ refused LongText k) ↔ (AllThere g roots × (text_limit < length w) × (k ≡ length w))
  unfolding flat_refusal
  refusal_ten k = (
    (λ e. by_ten (refusal LongText k) (order_first refusals e) refl),
    (λ (h, long, place). let (a, b) = there_all h in rw (a, b, long_text w long) (ap (λ (n : ℕ). refused LongText n) (sym place))),
  )

  pub refusal_twenty : (k : ℕ) → (verdict ≡ refused ShortChart k) ↔ (AllThere g roots × (length w ≤ text_limit) × (k ≡ need) × (length c₀ < k))
  unfolding flat_refusal
  refusal_twenty k = (
    (λ e. by_twenty (refusal ShortChart k) (order_first refusals e) refl),
    (λ (h, short, place, less). let (a, b) = there_all h in rw (a, b, short_text w short, short_chart need c₀ (omega arith)) (ap (λ (n : ℕ). refused ShortChart n) (sym place))),
  )

  pub refusal_none : AllThere g roots → length w ≤ text_limit → need ≤ length c₀ → verdict ≡ accepted
  unfolding flat_refusal
  refusal_none h short enough = let (a, b) = there_all h in rw (a, b, short_text w short, long_chart need c₀ enough) refl

-- ---- the outcome

module _ (flat : List ℕ) (roots : List Bool) (w c₀ l₀ : List ℕ) (r : Answer Refusal) (c l : List ℕ) (o : FlatOutcome flat roots w c₀ l₀ r c l) where
  -- a text that says a grammar has that grammar's outcome
  pub said_outcome : (g : List Line) → Says flat g → GrammarOutcome g roots w c₀ l₀ r c l
  unfolding FlatOutcome
  said_outcome g says =
      ⊎_elim
      (λ (place, not_in, is, chart, listing). absurd (not_in.outside (g, says)))
      (λ (h, told, u). subst (λ (x : List Line). GrammarOutcome x roots w c₀ l₀ r c l) (says_unique flat h g told says) u)
      o

  answer_rejected : {x y : Refusal} → ◌≡◌ {A = Answer Refusal} (Refused x) (Refused y) → ◌≡◌ {A = Verdict} (Err x) (Err y)
  answer_rejected e = ap (λ (z : Refusal). Err z) (same_refused e)

  -- a refusal other than 22 is the verdict's, and nothing is changed
  by_verdict : (s : Parsing) (v : Verdict) → UnlessRefused v s c₀ l₀ r c l → (x : Refusal) → (number_of x.fault ≡ 22 → ⊥) → r ≡ Refused x → (v ≡ Err x) × (c ≡ c₀) × (l ≡ l₀)
  unfolding UnlessRefused
  by_verdict s (Ok _) u x other e = absurd (other (ap number_of (refused_is_long s.parse l₀ r l u.answer x e)))
  by_verdict s (Err y) (is, chart, listing) x other e = (answer_rejected (sym is ∙ e), chart, listing)

  verdict_answer : (s : Parsing) (v : Verdict) → UnlessRefused v s c₀ l₀ r c l → (x : Refusal) → v ≡ Err x → r ≡ Refused x
  unfolding UnlessRefused
  verdict_answer s v u x e = (subst (λ (y : Verdict). UnlessRefused y s c₀ l₀ r c l) e u).0

  pub refused_exactly : (g : List Line) → Says flat g → (x : Refusal) → (number_of x.fault ≡ 22 → ⊥) → (r ≡ Refused x) ↔ (flat_refusal g roots w c₀ ≡ Err x)
  refused_exactly g says x other =
      let u = said_outcome g says in
      let s = trees_of g roots w in
      ((λ e. (by_verdict s (flat_refusal g roots w c₀) u x other e).0), verdict_answer s (flat_refusal g roots w c₀) u x)

  pub form_exactly : (k : ℕ) → (r ≡ Refused (refusal Form k)) ↔ NotInForm flat k
  unfolding FlatOutcome
  form_exactly k =
      ⊎_elim
      (λ (place, not_in, is, chart, listing). (
        (λ e. subst (NotInForm flat) (same_place (sym is ∙ e)) not_in),
        (λ h. is ∙ ap (λ (n : ℕ). Refused (refusal Form n)) (longest_unique flat place k not_in.longest h.longest)),
      ))
      (λ (g, says, u). (
        (λ e. absurd (wrong_number (flat_numbers g roots w c₀ (refusal Form k) (by_verdict (trees_of g roots w) (flat_refusal g roots w c₀) u (refusal Form k) (λ z. omega arith) e).0))),
        (λ h. absurd (h.outside (g, says))),
      ))
      o
    where
      same_place : {x y : Refusal} → ◌≡◌ {A = Answer Refusal} (Refused x) (Refused y) → x.place ≡ y.place
      same_place e = ap (λ (z : Refusal). z.place) (same_refused e)

      wrong_number : Numbers 27 → ⊥
      wrong_number h = ⊎_elim (λ e. omega arith) (⊎_elim (λ e. omega arith) (λ e. omega arith)) h

  pub flat_unchanged : (x : Refusal) → (number_of x.fault ≡ 22 → ⊥) → r ≡ Refused x → (c ≡ c₀) × (l ≡ l₀)
  unfolding FlatOutcome
  flat_unchanged x other e =
      ⊎_elim
      (λ (place, not_in, is, chart, listing). (chart, listing))
      (λ (g, says, u). let h = by_verdict (trees_of g roots w) (flat_refusal g roots w c₀) u x other e in (h.1, h.2))
      o

  pub flat_parsed : (g : List Line) → Says flat g → AllThere g roots → length w ≤ text_limit → chart_bytes (line_arity g) (length g) (length w) ≤ length c₀ → Parsed (trees_of g roots w) c₀ l₀ r c l
  unfolding UnlessRefused
  flat_parsed g says all short enough =
      subst (λ (v : Verdict). UnlessRefused v (trees_of g roots w) c₀ l₀ r c l) (refusal_none g roots w c₀ all short enough) (said_outcome g says)
