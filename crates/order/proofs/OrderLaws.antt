-- Laws of the order: it is transitive, irreflexive and never both ways; equal counts are an equivalence; and an answer is the only one.
use Prim.Native.Nat.{ℕ, ◌≤◌, ◌<◌}
use mathlib.Core.Bool.{Bool, true, not, ◌&&◌, false≢true}
use mathlib.Core.List.{List}
use mathlib.Core.Logic.{◌↔◌, ◌⊎◌, inl, inr, ⊎_elim, by_cases}
use mathlib.Core.Path.{◌≡◌, refl, sym, ◌∙◌, ap, ap₂}
use native.Mathlib.Decide.{dec_lt}
use native.Mathlib.Omega.{arith}
use lib.Dec.{eqb}
use lib.IntN.{pos, neg_ℤ}
use borrow.Author.Tests.{eq-eqb, eqb-true}
use Rattle.common.proofs.BoolLaws.{true_or_false}
use Rattle.refusal.specs.Verdict.{accepted}
use Rattle.layout.specs.Layout.{productions}
use Rattle.order.proofs.HighestLaws.{highest_from}
use Rattle.order.specs.Order.{Uses, Lower, EqualCounts, OrderIs, order_number, swapped}
use Rattle.order.specs.declared.Order.{Order}
use Rattle.order.specs.declared.Order.TheVariants.{Below, Equal, Above, Neither}
use Rattle.priority.proofs.CheckLaws.{accepted_formed}
use Rattle.priority.proofs.DeclarationLaws.{accepted_declares}
use Rattle.priority.proofs.PriorityLaws.{higher_chain}
use Rattle.priority.specs.Check.{checked}
use Rattle.priority.specs.Priorities.{Higher, is_higher}

-- ---- the highest production of which a test holds

module _ (b : List ℕ) (accepted : checked b ≡ accepted) where
  above : (x y : ℕ) → is_higher b x y ≡ true → Higher b x y
  above x y e = (higher_chain b (accepted_formed b accepted) x y).0 e

  tested : (x y : ℕ) → Higher b x y → is_higher b x y ≡ true
  tested x y h = (higher_chain b (accepted_formed b accepted) x y).1 h

  -- q is p or higher, f holds of it, and of no higher one
  highest : (f : ℕ → Bool) (p : ℕ) → f p ≡ true
      → (q : ℕ) × ((q ≡ p) ⊎ Higher b q p) × (f q ≡ true) × ((x : ℕ) → f x ≡ true → Higher b x q → ⊥)
  highest f p e =
      let d = accepted_declares b accepted in
      let (q, h) = highest_from f (is_higher b) (λ x k. d.irreflexive x (above x x k)) (λ x y z k l. tested x z (d.transitive x y z (above x y k) (above y z l))) (productions b) p e in (
        q,
        ⊎_elim (λ same. inl same) (λ k. inr (above q p k)) h.above,
        h.holds,
        λ x g k. h.highest x (d.higher_there x q k).0 g (tested x q k),
      )

  -- ---- transitivity

  module _ (l m n : Uses) (first : Lower b l m) (second : Lower b m n) where
    -- the three differ at a production
    differing : ℕ → Bool
    differing p = not (eqb (l p) (m p) && eqb (m p) (n p))

    one_differs : (p : ℕ) → (l p ≡ m p → m p ≡ n p → ⊥) → differing p ≡ true
    unfolding differing
    one_differs p h =
        ⊎_elim
        (λ e. ⊎_elim
        (λ f. absurd (h (eqb-true (l p) (m p) e) (eqb-true (m p) (n p) f)))
        (λ f. ap not (ap₂ ◌&&◌ e f))
        (true_or_false (eqb (m p) (n p))))
        (λ e. ap not (ap (λ (v : Bool). v && eqb (m p) (n p)) e))
        (true_or_false (eqb (l p) (m p)))

    differ_one : (p : ℕ) → differing p ≡ true → l p ≡ m p → m p ≡ n p → ⊥
    unfolding differing
    differ_one p h e f = false≢true (sym (ap not (ap₂ ◌&&◌ (eq-eqb (l p) (m p) e) (eq-eqb (m p) (n p) f))) ∙ h)

    -- Among those that differ, at p or higher, there is a highest one; it is used least often by the first and most often by the third.
    fewer_above : (p : ℕ) → p < productions b → differing p ≡ true → (q : ℕ) × ((q ≡ p) ⊎ Higher b q p) × (q < productions b) × (l q < n q)
    fewer_above p there h =
        let (q, over, own, top) = highest differing p h in
        let there_too : q < productions b = ⊎_elim (λ e. omega arith) (λ k. ((accepted_declares b accepted).higher_there q p k).0) over in
        let not_more : l q ≤ m q = by_cases (dec_lt (m q) (l q))
        (λ k. let (x, high, fewer) = first.outweighed q there_too k in absurd (top x (one_differs x (λ e f. omega arith)) high))
        (λ k. omega arith) in
        let nor_more : m q ≤ n q = by_cases (dec_lt (n q) (m q))
        (λ k. let (x, high, fewer) = second.outweighed q there_too k in absurd (top x (one_differs x (λ e f. omega arith)) high))
        (λ k. omega arith) in
        (q, over, there_too, by_cases (dec_lt (l q) (n q)) (λ k. k) (λ k. absurd (differ_one q own (omega arith) (omega arith))))

    pub lower_transitive : Lower b l n
    lower_transitive =
        record {
          differ =
              let (p, there, h) = first.differ in
              let (q, over, there_too, k) = fewer_above p there (one_differs p (λ e f. h e)) in
              (q, there_too, λ e. omega arith);
          outweighed = λ p there k.
              let (q, over, there_too, fewer) = fewer_above p there (one_differs p (λ e f. omega arith)) in
              ⊎_elim (λ e. absurd (omega (arith, ap l e, ap n e))) (λ high. (q, high, fewer)) over;
        }

  -- ---- never both ways

  pub lower_irreflexive : (m : Uses) → Lower b m m → ⊥
  lower_irreflexive m h = let (p, there, k) = h.differ in k refl

  pub lower_one_way : (m n : Uses) → Lower b m n → Lower b n m → ⊥
  lower_one_way m n h k = lower_irreflexive m (lower_transitive m n m h k)

  -- ---- what uses each production equally often stands alike

  back : {m n : Uses} → EqualCounts b m n → EqualCounts b n m
  back same p there = sym (same p there)

  pub lower_equal : (l m n k : Uses) → EqualCounts b l m → EqualCounts b n k → Lower b l n → Lower b m k
  lower_equal l m n k same also h =
      record {
        differ = let (p, there, e) = h.differ in (p, there, λ f. e (same p there ∙ f ∙ sym (also p there)));
        outweighed = λ p there more.
            let (q, high, fewer) = h.outweighed p there (omega (arith, same p there, also p there)) in
            let there_too = ((accepted_declares b accepted).higher_there q p high).0 in
            (q, high, omega (arith, same q there_too, also q there_too));
      }

  pub says_equal : (l m n k : Uses) → EqualCounts b l m → EqualCounts b n k → (r : Order) → OrderIs b l n r → OrderIs b m k r
  unfolding OrderIs
  says_equal l m n k same also Below h = lower_equal l m n k same also h
  says_equal l m n k same also Equal h = λ p there. sym (same p there) ∙ h p there ∙ also p there
  says_equal l m n k same also Above h = lower_equal n k l m also same h
  says_equal l m n k same also Neither (below, equal, above) = (
    (λ h. below (lower_equal m l k n (back same) (back also) h)),
    (λ h. equal (λ p there. same p there ∙ h p there ∙ sym (also p there))),
    (λ h. above (lower_equal k n m l (back also) (back same) h)),
  )

-- ---- the answer

pub says_swapped : (b : List ℕ) (m n : Uses) (r : Order) → OrderIs b m n r → OrderIs b n m (swapped r)
unfolding OrderIs swapped
says_swapped b m n Below h = h
says_swapped b m n Equal h = λ p l. sym (h p l)
says_swapped b m n Above h = h
says_swapped b m n Neither (below, equal, above) = (above, (λ h. equal (λ p l. sym (h p l))), below)

pub swapped_negates : (o : Order) → (order_number o ≡ pos 2 → ⊥) → order_number (swapped o) ≡ neg_ℤ (order_number o)
unfolding order_number swapped
swapped_negates Below h = refl
swapped_negates Equal h = refl
swapped_negates Above h = refl
swapped_negates Neither h = absurd (h refl)

pub swapped_keeps : (o : Order) → order_number o ≡ pos 2 → order_number (swapped o) ≡ pos 2
unfolding order_number swapped
swapped_keeps Below e = let z : ◌≡◌ {A = ℕ} 0 1 = cc in absurd (omega arith)
swapped_keeps Equal e = let z : ◌≡◌ {A = ℕ} 0 1 = cc in absurd (omega arith)
swapped_keeps Above e = let z : ◌≡◌ {A = ℕ} 0 1 = cc in absurd (omega arith)
swapped_keeps Neither e = refl

-- what is lower is not equal
lower_unequal : (b : List ℕ) (m n : Uses) → Lower b m n → EqualCounts b m n → ⊥
lower_unequal b m n h same = let (p, there, k) = h.differ in k (same p there)

lower_unequal' : (b : List ℕ) (m n : Uses) → Lower b n m → EqualCounts b m n → ⊥
lower_unequal' b m n h same = lower_unequal b n m h (λ p l. sym (same p l))

pub says_one : (b : List ℕ) → checked b ≡ accepted → (m n : Uses) (r s : Order) → OrderIs b m n r → OrderIs b m n s → r ≡ s
unfolding OrderIs
says_one b a m n Below Below h k = refl
says_one b a m n Below Equal h k = absurd (lower_unequal b m n h k)
says_one b a m n Below Above h k = absurd (lower_one_way b a m n h k)
says_one b a m n Below Neither h k = absurd (k.0 h)
says_one b a m n Equal Below h k = absurd (lower_unequal b m n k h)
says_one b a m n Equal Equal h k = refl
says_one b a m n Equal Above h k = absurd (lower_unequal' b m n k h)
says_one b a m n Equal Neither h k = absurd (k.1 h)
says_one b a m n Above Below h k = absurd (lower_one_way b a m n k h)
says_one b a m n Above Equal h k = absurd (lower_unequal' b m n h k)
says_one b a m n Above Above h k = refl
says_one b a m n Above Neither h k = absurd (k.2 h)
says_one b a m n Neither Below h k = absurd (h.0 k)
says_one b a m n Neither Equal h k = absurd (h.1 k)
says_one b a m n Neither Above h k = absurd (h.2 k)
says_one b a m n Neither Neither h k = refl

-- ---- grammars with the same productions, of which the same are higher

module _ (b c : List ℕ) (same : productions b ≡ productions c) (higher : (x y : ℕ) → Higher b x y ↔ Higher c x y) where
  lower_carried : (m n : Uses) → Lower b m n → Lower c m n
  lower_carried m n h =
      record {
        differ = let (p, there, k) = h.differ in (p, omega arith, k);
        outweighed = λ p there more. let (q, high, fewer) = h.outweighed p (omega arith) more in (q, (higher q p).0 high, fewer);
      }

pub says_carried : (b c : List ℕ) → productions b ≡ productions c → ((x y : ℕ) → Higher b x y ↔ Higher c x y) → (m n : Uses) (r : Order) → OrderIs b m n r → OrderIs c m n r
unfolding OrderIs
says_carried b c same higher m n Below h = lower_carried b c same higher m n h
says_carried b c same higher m n Equal h = λ p there. h p (omega arith)
says_carried b c same higher m n Above h = lower_carried b c same higher n m h
says_carried b c same higher m n Neither (below, equal, above) =
    let back : (x y : ℕ) → Higher c x y ↔ Higher b x y = λ x y. ((higher x y).1, (higher x y).0) in (
      (λ h. below (lower_carried c b (sym same) back m n h)),
      (λ h. equal (λ p there. h p (omega arith))),
      (λ h. above (lower_carried c b (sym same) back n m h)),
    )
