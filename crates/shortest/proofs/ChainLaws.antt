-- Chains of declarations: a production is higher than another exactly if one leads there, and none is as long as there are productions.
use Prim.Native.Nat.{ℕ, ◌+◌, ◌<◌}
use mathlib.Core.Path.{◌≡◌, refl, sym, subst}
use mathlib.Core.Bool.{Bool, true, false, ◌&&◌, ◌||◌, false≢true}
use mathlib.Core.List.{List, [], ◌∷◌, ◌++◌}
use mathlib.Core.Logic.{◌⊎◌, inl, inr, ⊎_elim}
use native.Mathlib.Omega.{arith}
use native.Mathlib.Numerals.{add-one}
use lib.Dec.{leb, ltb, eqb}
use lib.ListN.{length}
use borrow.Author.Tests.{ltb-true, eqb-true, eq-eqb}
use Rattle.common.proofs.BelowLaws.{count_small, count_more, count_one}
use Rattle.common.proofs.BoolLaws.{or_cases, and_first_true, and_second_true, true_or_false}
use Rattle.common.specs.Below.{count_below}
use Rattle.grammar.specs.Check.{is_group}
use Rattle.refusal.specs.Verdict.{accepted}
use Rattle.layout.specs.Layout.{productions, declarations, kind, first, second}
use Rattle.layout.specs.Limits.{kind_limit, pair_kind_limit}
use Rattle.priority.proofs.ChainLaws.{chain_append}
use Rattle.priority.proofs.CoverLaws.{declared_found, declared_made}
use Rattle.priority.proofs.DeclarationLaws.{accepted_declares}
use Rattle.priority.specs.Chain.{link, more}
use Rattle.priority.specs.Check.{checked}
use Rattle.priority.specs.Priorities.{higher, kind_number, said_kind, either_way, names_pair, covers, declaration_of, declarations_of, declared, Higher, PriorityDeclaration}
use Rattle.shortest.specs.Chain.{SaysHigher, Leads, one, onward}

-- ---- one declaration

-- a kind of groups says something else than "higher"
said_higher : (n : ℕ) → said_kind n ≡ kind_number higher → (n ≡ kind_number higher) × (is_group n ≡ false)
unfolding said_kind is_group kind_number
said_higher n e =
    ⊎_elim
    (λ g. let above = ltb-true pair_kind_limit n (and_first_true (ltb pair_kind_limit n) (leb n kind_limit) g) in absurd (omega (arith, rw g at e)))
    (λ g. (rw g at e, g))
    (true_or_false (is_group n))

module _ (b : List ℕ) where
  says_declared : {d x y : ℕ} → SaysHigher b d x y → declared b higher x y ≡ true
  unfolding declarations_of declaration_of covers said_kind is_group names_pair kind_number
  says_declared {d} {x} {y} s =
      declared_made (declarations b) (declaration_of b) higher x y d s.there
      (rw (s.is_kind, s.is_first, s.is_second, eq-eqb x x refl, eq-eqb y y refl) refl)

  declared_says : (x y : ℕ) → declared b higher x y ≡ true → (d : ℕ) × SaysHigher b d x y
  unfolding declarations_of declaration_of covers names_pair either_way
  declared_says x y e =
      let (d, l, h) = declared_found (declarations b) (declaration_of b) higher x y e in
      let own = declaration_of b d in
      let (is, alone) = said_higher (kind b d) (eqb-true (said_kind (kind b d)) (kind_number higher) (and_first_true (eqb (said_kind (kind b d)) (kind_number higher)) (names_pair own x y || false) h)) in
      let names : names_pair own x y ≡ true = ⊎_elim (λ a. a) (λ a. absurd (false≢true a)) (or_cases (names_pair own x y) false (and_second_true (eqb (said_kind (kind b d)) (kind_number higher)) (names_pair own x y || false) h)) in
      let both : (eqb (first b d) x && eqb (second b d) y) ≡ true = rw alone at names in
      (d, record { there = l; is_kind = is; is_first = eqb-true (first b d) x (and_first_true (eqb (first b d) x) (eqb (second b d) y) both); is_second = eqb-true (second b d) y (and_second_true (eqb (first b d) x) (eqb (second b d) y) both) })

  -- ---- chains

  pub leads_more : {chain : List ℕ} {d x y z : ℕ} → Leads b chain x y → SaysHigher b d y z → Leads b (chain ++ d ∷ []) x z
  leads_more (one s) t = onward s (one t)
  leads_more (onward s c) t = onward s (leads_more c t)

  -- "Higher" is that some chain leads there.
  pub higher_leads : {x y : ℕ} → Higher b x y → (chain : List ℕ) × Leads b chain x y
  higher_leads (link {x} {y} e) = let (d, s) = declared_says x y e in (d ∷ [], one s)
  higher_leads (more {y = y} {z = z} c e) =
      let (chain, l) = higher_leads c in
      let (d, s) = declared_says y z e in
      (chain ++ d ∷ [], leads_more l s)

  pub leads_higher : {chain : List ℕ} {x y : ℕ} → Leads b chain x y → Higher b x y
  leads_higher (one s) = link (says_declared s)
  leads_higher (onward s c) = chain_append (link (says_declared s)) (leads_higher c)

  -- ---- how long they are

  -- Along a chain of n declarations from x there are more than n productions: x, and some that x is higher than.
  record Along (x n : ℕ) : Type 0 where
    seen : ℕ → Bool
    below : (z : ℕ) → seen z ≡ true → (z ≡ x) ⊎ Higher b x z
    many : n < count_below (productions b) seen

  along_none : (x : ℕ) → x < productions b → Along x 0
  along_none x l = record { seen = λ z. eqb z x; below = λ z e. inl (eqb-true z x e); many = count_one (productions b) x l }

  module _ (order : PriorityDeclaration b) where
    -- the production before them is none of them, or there would be a circle
    along_more : {d x y n : ℕ} → SaysHigher b d x y → Along y n → Along x (n + 1)
    along_more {x = x} {y = y} {n = n} s a =
        let h : Higher b x y = link (says_declared s) in
        let new : a.seen x ≡ false =
        ⊎_elim
        (λ e. absurd (order.irreflexive x (⊎_elim (λ q. subst (λ (z : ℕ). Higher b x z) (sym q) h) (λ c. chain_append h c) (a.below x e))))
        (λ e. e)
        (true_or_false (a.seen x)) in
        record {
          seen = λ z. a.seen z || eqb z x;
          below = λ z e. ⊎_elim
              (λ v. inr (⊎_elim (λ q. subst (λ (w : ℕ). Higher b x w) (sym q) h) (λ c. chain_append h c) (a.below z v)))
              (λ v. inl (eqb-true z x v))
              (or_cases (a.seen z) (eqb z x) e);
          many = omega (arith, a.many, count_more (productions b) a.seen x (order.higher_there x y h).0 new);
        }

    along : {chain : List ℕ} {x y : ℕ} → Leads b chain x y → Along x (length chain)
    along (one {d} {x} {y} s) = along_more s (along_none y (order.higher_there x y (link (says_declared s))).1)
    along (onward {chain = chain} s c) = subst (Along _) (add-one (length chain)) (along_more s (along c))

  -- A chain has fewer declarations than there are productions.
  pub leads_short : checked b ≡ accepted → {chain : List ℕ} {x y : ℕ} → Leads b chain x y → length chain < productions b
  leads_short e c = let a = along (accepted_declares b e) c in omega (arith, a.many, count_small (productions b) a.seen)
