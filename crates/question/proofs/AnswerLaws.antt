-- The conflict question: yes, no and 7 with place 0, each exactly under its condition.
use Prim.Native.Nat.{ℕ}
use mathlib.Core.Path.{◌≡◌, refl, sym, ◌∙◌, ap}
use mathlib.Core.Bool.{Bool, false, true, ◌&&◌, false≢true}
use mathlib.Core.List.{List}
use mathlib.Core.Logic.{◌↔◌, ◌⊎◌, inl, inr, ⊎_elim}
use native.Mathlib.Omega.{arith}
use lib.Dec.{ltb}
use borrow.Author.Tests.{ltb-true, lt-ltb}
use Rattle.common.proofs.BoolLaws.{and_first_true, and_second_true, true_or_false, not_both}
use Rattle.refusal.proofs.VerdictLaws.{same_refusal, unless_answer, unless_refused_lem}
use Rattle.refusal.specs.Verdict.{accepted, refusal, refused}
use Rattle.refusal.specs.declared.Fault.TheVariants.{Absent}
use Rattle.refusal.specs.declared.Refusal.{Refusal}
use Rattle.std.specs.Prelude.{Result, Ok, Err}
use Rattle.layout.specs.Layout.{productions, argument_count}
use Rattle.priority.proofs.CheckLaws.{accepted_formed}
use Rattle.priority.proofs.ConflictLaws.{conflict_test}
use Rattle.priority.proofs.RefusalLaws.{seven_place}
use Rattle.priority.specs.Check.{checked}
use Rattle.priority.specs.Conflict.{Conflict, conflicts}
use Rattle.question.specs.Answer.{There, is_there, own_answer, conflict_answer}

-- ---- answers that are the same, or not

abbrev pub Answer : Type 0
Answer = Result Bool Refusal

pub refused_none : {A : Type 0} (r : Refusal) (c : Bool) → ◌≡◌ {A = Answer} (Err r) (Ok c) → A
refused_none r c e = let z : ◌≡◌ {A = ℕ} 0 1 = cc in absurd (omega arith)

pub yes_no : {A : Type 0} → ◌≡◌ {A = Answer} (Ok true) (Ok false) → A
yes_no e = let z : true ≡ false = cc in absurd (false≢true (sym z))

module _ (b : List ℕ) (p i q : ℕ) where
  -- ---- the test for what is there

  pub there_test : There b p i q → is_there b p i q ≡ true
  unfolding is_there
  there_test h = rw (lt-ltb p (productions b) h.0, lt-ltb i (argument_count b p) h.1, lt-ltb q (productions b) h.2) refl

  pub test_there : is_there b p i q ≡ true → There b p i q
  unfolding is_there
  test_there e =
      let x = ltb p (productions b) in
      let y = ltb i (argument_count b p) in
      let z = ltb q (productions b) in
      let front = and_first_true (x && y) z e in
      (ltb-true p (productions b) (and_first_true x y front), ltb-true i (argument_count b p) (and_second_true x y front), ltb-true q (productions b) (and_second_true (x && y) z e))

  -- ---- what the question answers itself

  abbrev own : Answer
  own = own_answer b p i q

  own_is : There b p i q → own ≡ Ok (conflicts b p i q)
  own_is h = rw (there_test h) refl

  own_absent : (There b p i q → ⊥) → own ≡ refused Absent 0
  own_absent h = ⊎_elim (λ e. absurd (h (test_there e))) (λ e. rw e refl) (true_or_false (is_there b p i q))

  -- one of these is its answer
  own_cases : ((There b p i q → ⊥) × (own ≡ refused Absent 0)) ⊎ (There b p i q × (own ≡ Ok (conflicts b p i q)))
  own_cases =
      ⊎_elim
      (λ e. let h = test_there e in inr (h, own_is h))
      (λ e. let h : There b p i q → ⊥ = λ x. not_both (is_there b p i q) (there_test x) e in inl (h, own_absent h))
      (true_or_false (is_there b p i q))

  own_found : {c : Bool} → own ≡ Ok c → There b p i q × (conflicts b p i q ≡ c)
  own_found {c} o =
      ⊎_elim
      (λ x. refused_none _ c (sym x.1 ∙ o))
      (λ x. let same : Ok (conflicts b p i q) ≡ Ok c = sym x.1 ∙ o in (x.0, cc))
      own_cases

  -- ---- the answer

  -- Yes exactly for a conflict.
  pub conflict_yes : (conflict_answer b p i q ≡ Ok true) ↔ ((checked b ≡ accepted) × There b p i q × Conflict b p i q)
  unfolding conflict_answer
  conflict_yes =
      let answer = unless_answer (checked b) own true in (
        (λ a. let (e, o) = answer.0 a in let (h, c) = own_found o in (e, h, (conflict_test b (accepted_formed b e) p i q).0 c)),
        (λ (e, h, c). answer.1 (e, own_is h ∙ ap (λ (v : Bool). Ok v) ((conflict_test b (accepted_formed b e) p i q).1 c))),
      )

  -- No exactly where there is none.
  pub conflict_no : (conflict_answer b p i q ≡ Ok false) ↔ ((checked b ≡ accepted) × There b p i q × (Conflict b p i q → ⊥))
  unfolding conflict_answer
  conflict_no =
      let answer = unless_answer (checked b) own false in (
        (λ a. let (e, o) = answer.0 a in let (h, none) = own_found o in
            (e, h, λ c. not_both (conflicts b p i q) ((conflict_test b (accepted_formed b e) p i q).1 c) none)),
        (λ (e, h, free). let test = conflict_test b (accepted_formed b e) p i q in
            answer.1 (e, own_is h ∙ ap (λ (v : Bool). Ok v) (⊎_elim (λ c. absurd (free (test.0 c))) (λ c. c) (true_or_false (conflicts b p i q))))),
      )

  -- A refusal exactly where the grammar has it, or 7 with place 0 for what isn't there.
  pub conflict_refused : (r : Refusal)
      → (conflict_answer b p i q ≡ Err r) ↔ ((checked b ≡ Err r) ⊎ ((checked b ≡ accepted) × (There b p i q → ⊥) × (r ≡ refusal Absent 0)))
  unfolding conflict_answer
  conflict_refused r =
      let answer = unless_refused_lem (checked b) own r in (
        (λ a. ⊎_elim
            (λ x. inl x)
            (λ (e, o). ⊎_elim
            (λ x. inr (e, x.0, same_refusal {B = Bool} (sym o ∙ x.1)))
            (λ x. refused_none r _ (sym o ∙ x.1))
            own_cases)
            (answer.0 a)),
        (λ h. answer.1 (⊎_elim (λ x. inl x) (λ (e, absent, is). inr (e, own_absent absent ∙ ap (λ (s : Refusal). Err s) (sym is))) h)),
      )

  -- 7 with place 0 exactly for an accepted grammar and what isn't there.
  pub conflict_absent : (conflict_answer b p i q ≡ refused Absent 0) ↔ ((checked b ≡ accepted) × (There b p i q → ⊥))
  conflict_absent = (
    (λ a. ⊎_elim (λ x. absurd (omega (arith, seven_place b x))) (λ x. (x.0, x.1)) ((conflict_refused (refusal Absent 0)).0 a)),
    (λ h. (conflict_refused (refusal Absent 0)).1 (inr (h.0, h.1, refl))),
  )
