-- Laws of tables of yes-or-no entries: an empty table, and one entry written.
use Prim.Native.Nat.{ℕ, ◌≤◌, ◌<◌}
use mathlib.Core.Path.{◌≡◌, refl, sym, ◌∙◌, ap, subst₂}
use mathlib.Core.Bool.{Bool, false, ◌&&◌, ◌||◌, and-true, and-false, or-false}
use mathlib.Core.List.{List, []}
use mathlib.Core.Logic.{by_cases}
use native.Mathlib.Omega.{arith}
use native.Mathlib.Decide.{ℕ_discrete, dec_lt}
use lib.Dec.{eqb}
use lib.ListN.{length, get_or, set, length-set, replicate, length-replicate, get_or-replicate, get_or-eq_default}
use lib.Seq.{get_or-set_same, get_or-set_other}
use borrow.Author.Tests.{eq-eqb, ne_eqb}
use Rattle.common.proofs.ListLaws.{get_d_all}
use Rattle.priority.specs.Chain.{entry, Square}

pub entry_out : (t : List (List Bool)) (x y : ℕ) → length t ≤ x → entry t x y ≡ false
unfolding entry
entry_out t x y h = rw (get_or-eq_default t [] h) refl

pub entry_none : (n x y : ℕ) → entry (replicate n (replicate n false)) x y ≡ false
unfolding entry
entry_none n x y =
    by_cases (dec_lt x n)
    (λ l. rw (get_or-replicate n x (replicate n false) [] l) (get_d_all n false y))
    (λ m. entry_out (replicate n (replicate n false)) x y (omega (arith, length-replicate n (replicate n false))))

pub square_none : (n : ℕ) → Square n (replicate n (replicate n false))
square_none n =
    record {
      rows = length-replicate n (replicate n false);
      columns = λ x l. rw (get_or-replicate n x (replicate n false) [] l) (length-replicate n false);
    }

module _ (n : ℕ) (t : List (List Bool)) (f s : ℕ) (v : Bool) (q : Square n t) (hf : f < n) (hs : s < n) where
  pub square_put : Square n (set t f (set (get_or t f []) s v))
  square_put =
      record {
        rows = length-set t f (set (get_or t f []) s v) ∙ q.rows;
        columns = λ x l. elim (ℕ_discrete x f) [
          | yes e ↦ rw (e, get_or-set_same t f (set (get_or t f []) s v) [] (omega (arith, q.rows))) (length-set (get_or t f []) s v ∙ q.columns f hf)
          | no e ↦ rw (get_or-set_other t f x (set (get_or t f []) s v) [] e) (q.columns x l)
        ];
      }

  entry_put_same : entry (set t f (set (get_or t f []) s v)) f s ≡ v
  unfolding entry
  entry_put_same =
      rw (get_or-set_same t f (set (get_or t f []) s v) [] (omega (arith, q.rows)))
      (get_or-set_same (get_or t f []) s v false (omega (arith, q.columns f hf)))

  entry_put_other : (x y : ℕ) → ((x ≡ f) × (y ≡ s) → ⊥) → entry (set t f (set (get_or t f []) s v)) x y ≡ entry t x y
  unfolding entry
  entry_put_other x y h =
      elim (ℕ_discrete x f) [
        | yes e ↦ rw (e, get_or-set_same t f (set (get_or t f []) s v) [] (omega (arith, q.rows))) (get_or-set_other (get_or t f []) s y v false (λ d. h (e, d)))
        | no e ↦ rw (get_or-set_other t f x (set (get_or t f []) s v) [] e) refl
      ]

-- An entry that takes up one more pair if `on` is set.
pub entry_put_or : (n : ℕ) (t : List (List Bool)) (f s : ℕ) (v on : Bool) → Square n t → f < n → s < n → v ≡ (entry t f s || on)
    → (x y : ℕ) → entry (set t f (set (get_or t f []) s v)) x y ≡ (entry t x y || on && (eqb f x && eqb s y))
entry_put_or n t f s v on q hf hs e x y =
    elim (ℕ_discrete f x) [
      | yes a ↦ elim (ℕ_discrete s y) [
        | yes c ↦ subst₂ (λ (k m : ℕ). entry (set t f (set (get_or t f []) s v)) k m ≡ (entry t k m || on && (eqb f k && eqb s m))) a c
            (rw (entry_put_same n t f s v q hf hs, eq-eqb f f refl, eq-eqb s s refl) (e ∙ ap (λ (z : Bool). entry t f s || z) (sym (and-true on))))
        | no c ↦ away (λ h. c (sym h.1)) (rw (ne_eqb s y c) (and-false (eqb f x)))
      ]
      | no a ↦ away (λ h. a (sym h.0)) (rw (ne_eqb f x a) refl)
    ]
  where
    away : ((x ≡ f) × (y ≡ s) → ⊥) → (eqb f x && eqb s y) ≡ false → entry (set t f (set (get_or t f []) s v)) x y ≡ (entry t x y || on && (eqb f x && eqb s y))
    away h z = rw (z, entry_put_other n t f s v q hf hs x y h) (sym (ap (λ (w : Bool). entry t x y || w) (and-false on) ∙ or-false (entry t x y)))
