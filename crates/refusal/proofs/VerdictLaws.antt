-- Laws of verdicts: what stands when a check accepts, and where the first refusal of many comes from.
use Prim.Native.Nat.{ℕ, zero, suc, ◌+◌, ◌<◌}
use mathlib.Core.Path.{◌≡◌, refl, sym, ◌∙◌, ap, subst}
use mathlib.Core.Bool.{Bool, false, true}
use mathlib.Core.List.{List, [], ◌∷◌, ◌++◌}
use mathlib.Core.Logic.{◌↔◌, ◌⊎◌, inl, inr, ⊎_elim, by_cases}
use native.Mathlib.Omega.{arith}
use native.Mathlib.Decide.{dec_lt}
use native.Mathlib.Numerals.{add-one}
use borrow.Author.Tests.{lt-ltb, le-ltb, le-leb, lt-leb, eq-eqb, ne_eqb}
use Rattle.std.specs.Prelude.{Result, Ok, Err, ⊤}
use Rattle.refusal.specs.Verdict.{Verdict, accepted, refuse_if, and_then, first_refusal, in_order, unless_refused}
use Rattle.refusal.specs.declared.Fault.{Fault}
use Rattle.refusal.specs.declared.Refusal.{Refusal}

-- what the code's tests say, for definitions that go by the same tests
pub ruleset cases = (lt-ltb, le-ltb, le-leb, lt-leb, eq-eqb, ne_eqb)

-- equal refusals are of one fault and at one place
pub same_refusal : {B : Type 0} {r s : Refusal} → ◌≡◌ {A = Result B Refusal} (Err r) (Err s) → r ≡ s
same_refusal e = cc

pub refused_not_accepted : {A : Type 0} (r : Refusal) → ◌≡◌ {A = Verdict} (Err r) accepted → A
refused_not_accepted r e = let z : ◌≡◌ {A = ℕ} 0 1 = cc in absurd (omega arith)

pub refuse_accepted : (t : Bool) (f : Fault) (p : ℕ) → refuse_if t f p ≡ accepted → t ≡ false
refuse_accepted true f p e = refused_not_accepted _ e
refuse_accepted false f p e = refl

pub and_first : (v w : Verdict) → and_then v w ≡ accepted → v ≡ accepted
and_first (Ok _) w e = refl
and_first (Err r) w e = e

pub and_second : (v w : Verdict) → and_then v w ≡ accepted → w ≡ accepted
and_second (Ok _) w e = e
and_second (Err r) w e = refused_not_accepted r e

pub accepted_last : (v : Verdict) → v ≡ and_then v accepted
accepted_last (Ok _) = refl
accepted_last (Err r) = refl

pub and_assoc : (u v w : Verdict) → and_then u (and_then v w) ≡ and_then (and_then u v) w
and_assoc (Ok _) v w = refl
and_assoc (Err r) v w = refl

-- ---- many checks in order

pub first_none : (check : ℕ → Verdict) → first_refusal 0 check ≡ accepted
unfolding first_refusal
first_none check = refl

pub first_more : (check : ℕ → Verdict) (i : ℕ) → first_refusal i check ≡ accepted → check i ≡ accepted → first_refusal (i + 1) check ≡ accepted
unfolding first_refusal
first_more check i e h = rw (add-one i, e) h

pub first_found : (check : ℕ → Verdict) (i n : ℕ) {r : Refusal} → i < n → first_refusal i check ≡ accepted → check i ≡ Err r → first_refusal n check ≡ Err r
unfolding first_refusal
first_found check i zero l e h = absurd (omega arith)
first_found check i (suc n) l e h =
    by_cases (dec_lt i n)
    (λ m. rw (first_found check i n m e h) refl)
    (λ m. let q : i ≡ n = omega arith in rw (← q, e) h)

pub first_done : (check : ℕ → Verdict) (i n : ℕ) → first_refusal i check ≡ accepted → i ≡ n → accepted ≡ first_refusal n check
first_done check i n e q = sym (subst (λ (k : ℕ). first_refusal k check ≡ accepted) q e)

pub first_all : (check : ℕ → Verdict) (n : ℕ) → first_refusal n check ≡ accepted → (i : ℕ) → i < n → check i ≡ accepted
unfolding first_refusal
first_all check zero e i l = absurd (omega arith)
first_all check (suc n) e i l =
    by_cases (dec_lt i n)
    (λ m. first_all check n (and_first (first_refusal n check) (check n) e) i m)
    (λ m. let q : n ≡ i = omega arith in subst (λ (j : ℕ). check j ≡ accepted) q (and_second (first_refusal n check) (check n) e))

pub first_pass : (check : ℕ → Verdict) (n : ℕ) → ((i : ℕ) → i < n → check i ≡ accepted) → first_refusal n check ≡ accepted
unfolding first_refusal
first_pass check zero h = refl
first_pass check (suc n) h = rw (first_pass check n (λ i l. h i (omega arith))) (h n (omega arith))

pub first_same : (f g : ℕ → Verdict) (n : ℕ) → ((i : ℕ) → i < n → f i ≡ g i) → first_refusal n f ≡ first_refusal n g
unfolding first_refusal
first_same f g zero h = refl
first_same f g (suc n) h = rw (first_same f g n (λ i l. h i (omega arith)), h n (omega arith)) refl

-- ---- a list of checks in two parts

pub order_append : (vs ws : List Verdict) → in_order (vs ++ ws) ≡ and_then (in_order vs) (in_order ws)
order_append [] ws = refl
order_append (v ∷ []) [] = accepted_last v
order_append (v ∷ []) (w ∷ ws) = refl
order_append (v ∷ u ∷ vs) ws = ap (λ (x : Verdict). and_then v x) (order_append (u ∷ vs) ws) ∙ and_assoc v (in_order (u ∷ vs)) (in_order ws)

-- ---- what a refusal comes from

-- A refusal that a test gives: the test holds, and fault and place are the test's.
pub refuse_case : (Q : Refusal → Type 0) (t : Bool) (f : Fault) (q : ℕ) {r : Refusal} → refuse_if t f q ≡ Err r → (t ≡ true → Q (record { fault = f; place = q })) → Q r
refuse_case Q true f q e h = subst Q (same_refusal e) (h refl)
refuse_case Q false f q {r} e h = refused_not_accepted r (sym e)

pub and_refused : (v w : Verdict) {r : Refusal} → and_then v w ≡ Err r → (v ≡ Err r) ⊎ ((v ≡ accepted) × (w ≡ Err r))
and_refused (Ok _) w e = inr (refl, e)
and_refused (Err s) w e = inl e

-- The first check of a list that refuses, all before it accepting.
pub data FirstIn : List Verdict → Refusal → Type 0 where
  here : {v : Verdict} {vs : List Verdict} {r : Refusal} → v ≡ Err r → FirstIn (v ∷ vs) r
  there : {v : Verdict} {vs : List Verdict} {r : Refusal} → v ≡ accepted → FirstIn vs r → FirstIn (v ∷ vs) r

pub order_first : (vs : List Verdict) {r : Refusal} → in_order vs ≡ Err r → FirstIn vs r
order_first [] {r} e = refused_not_accepted r (sym e)
order_first (v ∷ []) e = here e
order_first (v ∷ w ∷ vs) e = ⊎_elim (λ a. here a) (λ b. there b.0 (order_first (w ∷ vs) b.1)) (and_refused v (in_order (w ∷ vs)) e)

-- The first of many checks that refuses.
pub record FirstOf (check : ℕ → Verdict) (n : ℕ) (r : Refusal) : Type 0 where
  pub index : ℕ
  pub below : index < n
  pub refused : check index ≡ Err r
  pub before : (j : ℕ) → j < index → check j ≡ accepted

pub first_of : (check : ℕ → Verdict) (n : ℕ) {r : Refusal} → first_refusal n check ≡ Err r → FirstOf check n r
unfolding first_refusal
first_of check zero {r} e = refused_not_accepted r (sym e)
first_of check (suc n) e =
    ⊎_elim
    (λ a. let f = first_of check n a in record { index = f.index; below = omega (arith, f.below); refused = f.refused; before = f.before })
    (λ b. record { index = n; below = omega arith; refused = b.1; before = first_all check n b.0 })
    (and_refused (first_refusal n check) (check n) e)

-- ---- an operation that refuses what a verdict refuses

-- Any other answer is the operation's own.
pub unless_answer : {A : Type 0} (v : Verdict) (own : Result A Refusal) (x : A)
    → (unless_refused v own ≡ Ok x) ↔ ((v ≡ accepted) × (own ≡ Ok x))
unless_answer (Ok _) own x = ((λ e. (refl, e)), (λ h. h.1))
unless_answer (Err r) own x = ((λ e. let z : ◌≡◌ {A = ℕ} 0 1 = cc in absurd (omega arith)), (λ h. refused_not_accepted r h.0))

-- A refusal is the verdict's, or the operation's own.
pub unless_refused_lem : {A : Type 0} (v : Verdict) (own : Result A Refusal) (r : Refusal)
    → (unless_refused v own ≡ Err r) ↔ ((v ≡ Err r) ⊎ ((v ≡ accepted) × (own ≡ Err r)))
unless_refused_lem (Ok _) own r = ((λ e. inr (refl, e)), ⊎_elim (λ h. refused_not_accepted r (sym h)) (λ h. h.1))
unless_refused_lem {A} (Err s) own r = (
  (λ e. inl (ap Err (same_refusal {B = A} e))),
  ⊎_elim (λ h. ap Err (same_refusal {B = ⊤} h)) (λ h. refused_not_accepted s h.0),
)
