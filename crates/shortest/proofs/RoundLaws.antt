-- One round of the search, declaration by declaration.
use Prim.Native.Nat.{ℕ, ◌+◌, ◌≤◌, ◌<◌}
use mathlib.Core.Path.{◌≡◌, refl, sym, ◌∙◌, ap, ap₂, subst}
use mathlib.Core.Bool.{Bool, true, false, ◌&&◌}
use mathlib.Core.List.{List}
use mathlib.Core.Logic.{inl, inr, ⊎_elim, by_cases}
use native.Mathlib.Omega.{arith}
use native.Mathlib.Decide.{ℕ_discrete, dec_lt}
use lib.Dec.{eqb}
use lib.ListN.{length, get_or, set, length-set}
use lib.Seq.{get_or-set_same, get_or-set_other}
use borrow.Author.Tests.{eqb-true, eq-eqb}
use Rattle.common.proofs.BoolLaws.{and_first_true, and_second_true, not_both}
use Rattle.common.proofs.ListLaws.{get_d_there}
use Rattle.layout.specs.Layout.{declarations, kind, first, second}
use Rattle.layout.specs.Limits.{production_limit}
use Rattle.priority.specs.Priorities.{higher, kind_number, declaration_of}
use Rattle.priority.specs.declared.Declaration.{Declaration}
use Rattle.shortest.specs.Chain.{SaysHigher}
use Rattle.shortest.specs.Search.{far, away, onward_from, ahead, Sound, Within, Least, Rounds}

-- Round k has come to declaration n.
pub record Midway (b : List ℕ) (y k n : ℕ) (distance next : List ℕ) : Type 0 where
  pub sound : Sound b y distance next
  pub within : Within (k + 1) distance
  pub least : Least b k n distance

-- ---- what the test of a declaration says

-- The test: it is of kind 1, its first production has no distance, and its second is k away.
abbrev pub leads_back : (k : ℕ) (distance : List ℕ) → Declaration → Bool
leads_back k distance l = eqb l.kind (kind_number higher) && (eqb (away distance l.first) far && eqb (away distance l.second) k)

-- as code makes it
pub test_made : (k : ℕ) (distance : List ℕ) (l : Declaration) (inner outer : Bool) → l.first < length distance → l.second < length distance
    → inner ≡ (eqb (get_or distance l.first 0) far && eqb (get_or distance l.second 0) k) → outer ≡ (eqb l.kind (kind_number higher) && inner)
    → outer ≡ leads_back k distance l
test_made k distance l inner outer hf hs i o =
    o
    ∙ ap (λ (v : Bool). eqb l.kind (kind_number higher) && v)
    (i ∙ ap₂ (λ (m n : ℕ). eqb m far && eqb n k) (get_d_there distance l.first 0 far hf) (get_d_there distance l.second 0 far hs))

module _ (b : List ℕ) (k : ℕ) (distance : List ℕ) (n : ℕ) where
  -- if it holds, the declaration leads from a production that is new to one that is k away
  pub test_new : n < declarations b → leads_back k distance (declaration_of b n) ≡ true
      → SaysHigher b n (first b n) (second b n) × (away distance (first b n) ≡ far) × (away distance (second b n) ≡ k)
  unfolding declaration_of
  test_new l e =
      let of_kind = eqb (kind b n) (kind_number higher) in
      let is_far = eqb (away distance (first b n)) far in
      let is_near = eqb (away distance (second b n)) k in
      let both = and_second_true of_kind (is_far && is_near) e in (
        record { there = l; is_kind = eqb-true (kind b n) (kind_number higher) (and_first_true of_kind (is_far && is_near) e); is_first = refl; is_second = refl },
        eqb-true (away distance (first b n)) far (and_first_true is_far is_near both),
        eqb-true (away distance (second b n)) k (and_second_true is_far is_near both),
      )

  -- if not, there is no such
  pub test_old : leads_back k distance (declaration_of b n) ≡ false → (x z : ℕ) → SaysHigher b n x z → away distance z ≡ k → away distance x ≡ far → ⊥
  unfolding declaration_of kind_number
  test_old e x z s at new =
      not_both (leads_back k distance (declaration_of b n))
      (rw (s.is_kind, s.is_first, s.is_second, at, new, eq-eqb k k refl) refl) e

-- ---- the round

module _ (b : List ℕ) (y k : ℕ) (distance next : List ℕ) where
  pub round_begins : Rounds b y k distance next → Midway b y k 0 distance next
  round_begins r =
      record { sound = r.sound; within = λ x. ⊎_elim (λ h. inl (omega arith)) (λ h. inr h) (r.within x); least = r.least }

  pub round_ends : Midway b y k (declarations b) distance next → Rounds b y (k + 1) distance next
  round_ends m =
      record {
        sound = m.sound;
        within = m.within;
        least = λ d x z s. ⊎_elim
            (λ l. m.least d x z s (by_cases (dec_lt (away distance z) k) (λ h. inl h) (λ h. inr (omega arith, s.there))))
            (λ h. absurd (omega (arith, h.1)));
      }

  module _ (n : ℕ) (m : Midway b y k n distance next) where
    -- declaration n finds nothing new
    pub round_passes : ((x z : ℕ) → SaysHigher b n x z → away distance z ≡ k → away distance x ≡ far → ⊥) → Midway b y k (n + 1) distance next
    round_passes old =
        record {
          sound = m.sound;
          within = m.within;
          least = λ d x z s. ⊎_elim
              (λ l. m.least d x z s (inl l))
              (λ h. elim (ℕ_discrete d n) [
                | yes e ↦ ⊎_elim
                    (λ w. omega (arith, w, h.0))
                    (λ w. absurd (old x z (subst (λ (i : ℕ). SaysHigher b i x z) e s) h.0 w))
                    (m.within x)
                | no e ↦ m.least d x z s (inr (h.0, omega (arith, h.1)))
              ]);
        }

    -- it finds x
    module _ (x z : ℕ) (s : SaysHigher b n x z) (there : x < production_limit) (few : k + 1 < far) (new : away distance x ≡ far) (at : away distance z ≡ k) where
      abbrev distance' : List ℕ
      distance' = set distance x (k + 1)

      abbrev next' : List ℕ
      next' = set next x n

      found_here : away distance' x ≡ k + 1
      found_here = get_or-set_same distance x (k + 1) far (omega (arith, m.sound.distances))

      found_next : onward_from next' x ≡ n
      found_next = get_or-set_same next x n 0 (omega (arith, m.sound.nexts))

      module _ (w : ℕ) (other : w ≡ x → ⊥) where
        kept : away distance' w ≡ away distance w
        kept = get_or-set_other distance x w (k + 1) far other

        kept_next : onward_from next' w ≡ onward_from next w
        kept_next = get_or-set_other next x w n 0 other

      -- what was found is not x
      near_kept : (w : ℕ) → away distance w < far → away distance' w ≡ away distance w
      near_kept w l = kept w (λ e. omega (arith, ap (away distance) e))

      step_here : SaysHigher b (onward_from next' x) x (ahead b next' x) × (away distance' (ahead b next' x) + 1 ≡ away distance' x)
      step_here =
          let leads : ahead b next' x ≡ z = ap (second b) found_next ∙ s.is_second in
          (rw (leads, found_next) s, omega (arith, ap (away distance') leads, near_kept z (omega arith), found_here))

      step_other : (w : ℕ) → (w ≡ x → ⊥) → 0 < away distance' w → away distance' w < far
          → SaysHigher b (onward_from next' w) w (ahead b next' w) × (away distance' (ahead b next' w) + 1 ≡ away distance' w)
      step_other w other h i =
          let same = kept w other in
          let (says, further) = m.sound.step w (omega (arith, same)) (omega (arith, same)) in
          let onto : ahead b next' w ≡ ahead b next w = ap (second b) (kept_next w other) in
          (rw (kept_next w other) says, omega (arith, ap (away distance') onto, near_kept (ahead b next w) (omega (arith, further, same)), further, same))

      least_found : Least b k (n + 1) distance'
      least_found d v t says passed =
          let at_most : away distance' t ≤ k = ⊎_elim (λ l. omega arith) (λ h. omega (arith, h.0)) passed in
          let same = kept t (λ e. omega (arith, at_most, found_here, ap (away distance') e)) in
          elim (ℕ_discrete v x) [
            | yes q ↦ ⊎_elim
                (λ l. absurd (omega (arith, same, new, ap (away distance) q, m.least d v t says (inl (omega (arith, same))))))
                (λ h. omega (arith, h.0, found_here, ap (away distance') q))
                passed
            | no q ↦ ⊎_elim
                (λ l. omega (arith, same, kept v q, m.least d v t says (inl (omega (arith, same)))))
                (λ h. elim (ℕ_discrete d n) [
                  | yes e ↦ absurd (q (sym says.is_first ∙ ap (first b) e ∙ s.is_first))
                  | no e ↦ omega (arith, same, kept v q, m.least d v t says (inr (sym same ∙ h.0, omega (arith, h.1))))
                ])
                passed
          ]

      pub round_finds : Midway b y k (n + 1) distance' next'
      round_finds =
          record {
            sound = record {
              distances = length-set distance x (k + 1) ∙ m.sound.distances;
              nexts = length-set next x n ∙ m.sound.nexts;
              start = near_kept y (omega (arith, m.sound.start)) ∙ m.sound.start;
              home = λ w e. elim (ℕ_discrete w x) [ yes q ↦ absurd (omega (arith, e, found_here, ap (away distance') q)) | no q ↦ m.sound.home w (sym (kept w q) ∙ e) ];
              step = λ w h i. elim (ℕ_discrete w x) [
                | yes q ↦ rw q step_here
                | no q ↦ step_other w q h i
              ];
            };
            within = λ w. elim (ℕ_discrete w x) [
              | yes q ↦ inl (omega (arith, found_here, ap (away distance') q))
              | no q ↦ ⊎_elim (λ l. inl (omega (arith, kept w q))) (λ l. inr (kept w q ∙ l)) (m.within w)
            ];
            least = least_found;
          }
