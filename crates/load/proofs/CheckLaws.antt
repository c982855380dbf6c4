-- What an answer of checking a flat text says: 27 and 28 exactly under their conditions, and otherwise how many lines there are.
use Prim.Native.Nat.{ℕ}
use mathlib.Core.List.{List}
use mathlib.Core.Logic.{◌↔◌, ◌⊎◌, inl, inr, ⊎_elim}
use mathlib.Core.Path.{◌≡◌, sym, ◌∙◌, ap, subst}
use native.Mathlib.Omega.{arith}
use lib.ListN.{length}
use Rattle.ccg.specs.Ccg.{Line}
use Rattle.ccg.specs.Tables.{table_grammar}
use Rattle.form.proofs.FormLaws.{longest_unique, says_unique}
use Rattle.form.specs.Form.{Says, NotInForm}
use Rattle.refusal.proofs.VerdictLaws.{same_refusal, unless_answer, unless_refused_lem}
use Rattle.refusal.specs.Verdict.{accepted, refusal, refused}
use Rattle.refusal.specs.declared.Fault.TheVariants.{Form, NoLine}
use Rattle.std.specs.Prelude.{Result, Ok, Err}
use Rattle.refusal.specs.declared.Refusal.{Refusal}
use Rattle.load.proofs.AbsentLaws.{names_number}
use Rattle.load.proofs.NamesLaws.{names_first, names_accepted}
use Rattle.load.specs.Absent.{absent_names, Names, FirstNamed}
use Rattle.load.specs.Check.{lines_answer, Checked, Loaded}

abbrev Answer : Type 0
Answer = Result ℕ Refusal

-- the tables hold the grammar that the text says
pub loaded_says : (text : List ℕ) (r : Answer) (t : List ℕ) → Loaded text r t → (g : List Line) → Says text g → table_grammar t ≡ g
unfolding Loaded
loaded_says text r t h g says =
    ⊎_elim (λ (place, not_in, is). absurd (not_in.outside (g, says))) (λ (readable, own, is). says_unique text (table_grammar t) g own says) h

-- ---- answers that are different

refused_lines : {A : Type 0} {r : Refusal} {n : ℕ} → ◌≡◌ {A = Answer} (Err r) (Ok n) → A
refused_lines e = let z : ◌≡◌ {A = ℕ} 0 1 = cc in absurd (omega arith)

same_count : {n m : ℕ} → ◌≡◌ {A = Answer} (Ok n) (Ok m) → n ≡ m
same_count e = cc

refusal_is : {r s : Refusal} → ◌≡◌ {A = Answer} (Err r) (Err s) → r ≡ s
refusal_is = same_refusal {B = ℕ}

not_form : {A : Type 0} → NoLine ≡ Form → A
not_form e = let z : ◌≡◌ {A = ℕ} 0 1 = cc in absurd (omega arith)

-- ---- a grammar's own answer

module _ (g : List Line) where
  lines_answer_lem : (n : ℕ) → (lines_answer g ≡ Ok n) ↔ ((absent_names g ≡ accepted) × (n ≡ length g))
  unfolding lines_answer
  lines_answer_lem n =
      let own = unless_answer (absent_names g) (Ok (length g)) n in
      ((λ e. let (a, same) = own.0 e in (a, sym (same_count same))), (λ (a, is). own.1 (a, ap (λ (k : ℕ). Ok k) (sym is))))

  refused_answer : (r : Refusal) → (lines_answer g ≡ Err r) ↔ (absent_names g ≡ Err r)
  unfolding lines_answer
  refused_answer r =
      let own = unless_refused_lem (absent_names g) (Ok (length g)) r in
      ((λ e. ⊎_elim (λ a. a) (λ (a, is). refused_lines (sym is)) (own.0 e)), (λ h. own.1 (inl h)))

-- ---- the answer

module _ (text : List ℕ) (r : Answer) (h : Checked text r) where
  said : (g : List Line) → Says text g → r ≡ lines_answer g
  unfolding Checked
  said g says = ⊎_elim (λ (place, not_in, is). absurd (not_in.outside (g, says))) (λ (k, told, is). is ∙ ap lines_answer (says_unique text k g told says)) h

  pub checked_lines : (n : ℕ) → (r ≡ Ok n) ↔ ((g : List Line) × Says text g × ((p i q : ℕ) → Names g p i q → ⊥) × (n ≡ length g))
  unfolding Checked
  checked_lines n = (
    (λ e. ⊎_elim
        (λ (place, not_in, is). refused_lines (sym is ∙ e))
        (λ (g, says, is). let (a, count) = (lines_answer_lem g n).0 (sym is ∙ e) in (g, says, (names_accepted g).0 a, count))
        h),
    (λ (g, says, none, count). said g says ∙ (lines_answer_lem g n).1 ((names_accepted g).1 none, count)),
  )

  pub checked_form : (k : ℕ) → (r ≡ refused Form k) ↔ NotInForm text k
  unfolding Checked
  checked_form k = (
    (λ e. ⊎_elim
        (λ (place, not_in, is). subst (NotInForm text) (ap (λ (x : Refusal). x.place) (refusal_is (sym is ∙ e))) not_in)
        (λ (g, says, is). not_form (sym (names_number g (refusal Form k) ((refused_answer g (refusal Form k)).0 (sym is ∙ e)))))
        h),
    (λ not_in. ⊎_elim
        (λ (place, out, is). is ∙ ap (λ (n : ℕ). refused Form n) (longest_unique text place k out.longest not_in.longest))
        (λ (g, says, is). absurd (not_in.outside (g, says)))
        h),
  )

  pub checked_absent : (k : ℕ) → (r ≡ refused NoLine k) ↔ ((g : List Line) × Says text g × FirstNamed g k)
  unfolding Checked
  checked_absent k = (
    (λ e. ⊎_elim
        (λ (place, not_in, is). not_form (ap (λ (x : Refusal). x.fault) (refusal_is (sym e ∙ is))))
        (λ (g, says, is). (g, says, (names_first g k).0 ((refused_answer g (refusal NoLine k)).0 (sym is ∙ e))))
        h),
    (λ (g, says, first). said g says ∙ (refused_answer g (refusal NoLine k)).1 ((names_first g k).1 first)),
  )

  pub checked_faults : (x : Refusal) → r ≡ Err x → (x.fault ≡ Form) ⊎ (x.fault ≡ NoLine)
  unfolding Checked
  checked_faults x e =
      ⊎_elim
      (λ (place, not_in, is). inl (ap (λ (y : Refusal). y.fault) (refusal_is (sym e ∙ is))))
      (λ (g, says, is). inr (names_number g x ((refused_answer g x).0 (sym is ∙ e))))
      h

-- For one text there is one answer.
pub checked_unique : (text : List ℕ) (r r' : Answer) → Checked text r → Checked text r' → r ≡ r'
unfolding Checked
checked_unique text r r' h k =
    ⊎_elim
    (λ (place, not_in, is). is ∙ sym ((checked_form text r' k place).1 not_in))
    (λ (g, says, is). is ∙ sym (said text r' k g says))
    h
