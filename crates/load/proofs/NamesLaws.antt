-- Refusal 28 comes exactly for the first name of a line that isn't there.
use Prim.Native.Nat.{ℕ, ◌+◌, ◌-◌, ◌≤◌, ◌<◌}
use mathlib.Core.Bool.{false, true, true≢false}
use mathlib.Core.List.{List}
use mathlib.Core.Logic.{◌↔◌, by_cases}
use mathlib.Core.Path.{◌≡◌, refl, sym, ◌∙◌, ap₂, subst}
use native.Mathlib.Decide.{dec_lt}
use native.Mathlib.Omega.{arith}
use lib.ListN.{length, get_or}
use Rattle.ccg.specs.Ccg.{Class, Line, no_line, no_class}
use Rattle.refusal.proofs.VerdictLaws.{refuse_case, refuse_accepted, FirstOf, first_of, first_all, first_pass}
use Rattle.refusal.specs.Verdict.{Verdict, accepted, refusal, refused}
use Rattle.std.specs.Prelude.{Ok, Err}
use Rattle.refusal.specs.declared.Fault.{Fault}
use Rattle.refusal.specs.declared.Fault.TheVariants.{NoLine}
use Rattle.refusal.specs.declared.Refusal.{Refusal}
use Rattle.layout.specs.Limits.{production_limit}
use Rattle.load.proofs.AbsentLaws.{names_number}
use Rattle.load.specs.Absent.{absent_at, absent_in, absent_in_argument, absent_in_line, absent_in_line_at, absent_names, Names, FirstNamed}
use Rattle.theory.specs.Tree.{production_number}

-- ---- classes that name no absent line

pub class_names : (count : ℕ) (cc : Class) → absent_in count cc ≡ accepted → (q : ℕ) → count ≤ q → q < production_limit → cc (production_number q) ≡ false
unfolding absent_in absent_at
class_names count cc e q l h =
    let k = q - count in
    let same : count + k ≡ q = omega arith in
    subst (λ (n : ℕ). cc (production_number n) ≡ false) same
    (refuse_accepted (cc (production_number (count + k))) NoLine (production_number (count + k)) (first_all (absent_at count cc) (production_limit - count) e k (omega arith)))

pub class_accepted : (count : ℕ) (cc : Class) → ((q : ℕ) → count ≤ q → q < production_limit → cc (production_number q) ≡ false) → absent_in count cc ≡ accepted
unfolding absent_in absent_at
class_accepted count cc none = first_pass (absent_at count cc) (production_limit - count) (λ k l. rw (none (count + k) (omega arith) (omega arith)) refl)

module _ (g : List Line) where
  abbrev class_at : ℕ → ℕ → Class
  class_at p i = get_or (get_or g p no_line).arguments i no_class

  accepted_none : (p i : ℕ) → absent_in (length g) (class_at p i) ≡ accepted → (q : ℕ) → Names g p i q → ⊥
  accepted_none p i e q h = true≢false (sym h.named ∙ class_names (length g) (class_at p i) e q h.absent h.number)

  line_none : (p : ℕ) → absent_in_line_at g p ≡ accepted → (i q : ℕ) → Names g p i q → ⊥
  unfolding absent_in_line_at absent_in_line absent_in_argument
  line_none p e i q h = accepted_none p i (first_all (absent_in_argument (length g) (get_or g p no_line)) (length (get_or g p no_line).arguments) e i h.argument) q h

  pub names_none : absent_names g ≡ accepted → (p i q : ℕ) → Names g p i q → ⊥
  unfolding absent_names
  names_none e p i q h = line_none p (first_all (absent_in_line_at g) (length g) e p h.line) i q h

  -- ---- the first that does

  module _ (p : ℕ) (lp : p < length g) (earlier : (p' : ℕ) → p' < p → absent_in_line_at g p' ≡ accepted)
      (i : ℕ) (li : i < length (get_or g p no_line).arguments) (before : (i' : ℕ) → i' < i → absent_in_argument (length g) (get_or g p no_line) i' ≡ accepted) where
    first_in_class : (r : Refusal) → FirstOf (absent_at (length g) (class_at p i)) (production_limit - length g) r → FirstNamed g r.place
    unfolding absent_at absent_in_argument
    first_in_class r f =
        let q = length g + f.index in
        let (set, is) : (class_at p i (production_number q) ≡ true) × (r.place ≡ production_number q) =
        refuse_case (λ x. (class_at p i (production_number q) ≡ true) × (x.place ≡ production_number q)) (class_at p i (production_number q)) NoLine (production_number q) f.refused (λ t. (t, refl)) in
        let below = f.below in
        record {
          p = p;
          i = i;
          q = q;
          names = record { line = lp; argument = li; absent = omega arith; number = omega arith; named = set };
          is_place = is;
          earlier = λ p' i' q' l. line_none p' (earlier p' l) i' q';
          before = λ i' q' l. accepted_none p i' (before i' l) q';
          lower = λ q' l h. let j = q' - length g in
              let same : length g + j ≡ q' = omega (arith, h.absent) in
              let passed = refuse_accepted (class_at p i (production_number (length g + j))) NoLine (production_number (length g + j)) (f.before j (omega (arith, h.absent))) in
              true≢false (sym h.named ∙ subst (λ (n : ℕ). class_at p i (production_number n) ≡ false) same passed);
        }

  refused_first : (r : Refusal) → absent_names g ≡ Err r → FirstNamed g r.place
  unfolding absent_names absent_in_line_at absent_in_line absent_in_argument absent_in
  refused_first r e =
      let line = first_of (absent_in_line_at g) (length g) e in
      let p = line.index in
      let l = get_or g p no_line in
      let argument = first_of (absent_in_argument (length g) l) (length l.arguments) line.refused in
      first_in_class p line.below line.before argument.index argument.below argument.before r
      (first_of (absent_at (length g) (class_at p argument.index)) (production_limit - length g) argument.refused)

  -- there is one first name
  first_unique : (k j : ℕ) → FirstNamed g k → FirstNamed g j → k ≡ j
  first_unique k j a b =
      by_cases (dec_lt a.p b.p) (λ l. absurd (b.earlier a.p a.i a.q l a.names))
      (λ m. by_cases (dec_lt b.p a.p) (λ l. absurd (a.earlier b.p b.i b.q l b.names))
      (λ o. let lines : a.p ≡ b.p = omega arith in
      let an : Names g b.p a.i a.q = subst (λ (x : ℕ). Names g x a.i a.q) lines a.names in
      let bn : Names g a.p b.i b.q = subst (λ (x : ℕ). Names g x b.i b.q) (sym lines) b.names in
      by_cases (dec_lt a.i b.i) (λ l. absurd (b.before a.i a.q l an))
      (λ n. by_cases (dec_lt b.i a.i) (λ l. absurd (a.before b.i b.q l bn))
      (λ r. let arguments : a.i ≡ b.i = omega arith in
      by_cases (dec_lt a.q b.q) (λ l. absurd (b.lower a.q l (subst (λ (x : ℕ). Names g b.p x a.q) arguments an)))
      (λ s. by_cases (dec_lt b.q a.q) (λ l. absurd (a.lower b.q l (subst (λ (x : ℕ). Names g a.p x b.q) (sym arguments) bn)))
      (λ t. omega (arith, a.is_place, b.is_place)))))))

  first_refused : (v : Verdict) → absent_names g ≡ v → (k : ℕ) → FirstNamed g k → v ≡ refused NoLine k
  first_refused (Ok _) e k f = absurd (names_none e f.p f.i f.q f.names)
  first_refused (Err r) e k f = ap₂ (λ (x : Fault) (j : ℕ). Err (refusal x j)) (names_number g r e) (first_unique r.place k (refused_first r e) f)

  pub names_first : (k : ℕ) → (absent_names g ≡ refused NoLine k) ↔ FirstNamed g k
  names_first k = (refused_first (refusal NoLine k), λ f. first_refused (absent_names g) refl k f)

  -- and none is accepted exactly if there is no such name
  none_accepted : (v : Verdict) → absent_names g ≡ v → ((p i q : ℕ) → Names g p i q → ⊥) → v ≡ accepted
  none_accepted (Ok _) e none = refl
  none_accepted (Err r) e none = let f = refused_first r e in absurd (none f.p f.i f.q f.names)

  pub names_accepted : (absent_names g ≡ accepted) ↔ ((p i q : ℕ) → Names g p i q → ⊥)
  names_accepted = (names_none, λ none. none_accepted (absent_names g) refl none)
