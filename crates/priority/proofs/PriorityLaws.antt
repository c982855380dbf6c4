-- Laws of the declared priorities: only productions are related, "higher" as a chain and as a test, and the bytes of a declaration.
use Prim.Native.Nat.{ℕ, ◌+◌, ◌<◌}
use mathlib.Core.Bool.{Bool, true, ◌&&◌, ◌||◌}
use mathlib.Core.List.{List}
use mathlib.Core.Logic.{◌↔◌, ⊎_elim}
use mathlib.Core.Path.{◌≡◌, ◌∙◌, ap}
use native.Mathlib.Omega.{arith}
use lib.Dec.{eqb}
use lib.ListN.{get_or}
use borrow.Author.Tests.{eqb-true}
use Rattle.common.proofs.BelowLaws.{between_ends}
use Rattle.common.proofs.BoolLaws.{or_cases, and_first_true, and_second_true, same_test, true_or_false}
use Rattle.common.specs.Below.{between}
use Rattle.grammar.specs.Check.{is_group}
use Rattle.grammar.specs.Formed.{WellFormed}
use Rattle.refusal.specs.Verdict.{refuse_if}
use Rattle.layout.specs.Layout.{productions, declarations, declaration_at, kind, first, second}
use Rattle.priority.proofs.ChainLaws.{through_chain, chain_through}
use Rattle.priority.proofs.CoverLaws.{declared_found}
use Rattle.priority.specs.Chain.{link, more, entry}
use Rattle.priority.specs.Check.{circle, on_diagonal}
use Rattle.priority.specs.Priorities.{Kind, higher, kind_number, said_kind, either_way, names_pair, covers, declaration_of, declarations_of, declared, Higher, is_higher_in, is_higher}
use Rattle.refusal.specs.declared.Fault.TheVariants.{Circle}

-- ---- only productions are related

module _ (b : List ℕ) (w : WellFormed b) where
  -- a declaration of the grammar names productions that are there
  named_there : (d x y : ℕ) → d < declarations b → names_pair (declaration_of b d) x y ≡ true → (x < productions b) × (y < productions b)
  unfolding names_pair declaration_of
  named_there d x y l e =
      ⊎_elim
      (λ g. let both = rw g at e in
      let inside = between (first b d) (second b d) in
      let one = between_ends (first b d) (second b d) x (and_first_true (inside x) (inside y) both) in
      let other = between_ends (first b d) (second b d) y (and_second_true (inside x) (inside y) both) in
      (omega (arith, one, w.second_there d l), omega (arith, other, w.second_there d l)))
      (λ g. let both = rw g at e in
      let one = eqb-true (first b d) x (and_first_true (eqb (first b d) x) (eqb (second b d) y) both) in
      let other = eqb-true (second b d) y (and_second_true (eqb (first b d) x) (eqb (second b d) y) both) in
      (omega (arith, one, w.first_there d l), omega (arith, other, w.second_there d l)))
      (true_or_false (is_group (kind b d)))

  pub declared_there_lem : (k : Kind) (x y : ℕ) → declared b k x y ≡ true → (x < productions b) × (y < productions b)
  unfolding declarations_of covers
  declared_there_lem k x y e =
      let (d, l, h) = declared_found (declarations b) (declaration_of b) k x y e in
      let there = names_pair (declaration_of b d) x y in
      let turned = names_pair (declaration_of b d) y x in
      ⊎_elim
      (λ a. named_there d x y l a)
      (λ a. let (q, p) = named_there d y x l (and_second_true (either_way k) turned a) in (p, q))
      (or_cases there (either_way k && turned) (and_second_true (eqb (said_kind (declaration_of b d).kind) (kind_number k)) (there || either_way k && turned) h))

  pub higher_there_lem : {x y : ℕ} → Higher b x y → (x < productions b) × (y < productions b)
  higher_there_lem (link {x} {y} e) = declared_there_lem higher x y e
  higher_there_lem (more {y = y} {z = z} c e) = ((higher_there_lem c).0, (declared_there_lem higher y z e).1)

-- The test is the chain.
pub higher_chain : (b : List ℕ) → WellFormed b → (x y : ℕ) → (is_higher b x y ≡ true) ↔ Higher b x y
unfolding is_higher_in
higher_chain b w x y =
    ((λ e. through_chain (declared b higher) (productions b) x y e), (λ c. chain_through (declared b higher) (productions b) (λ x y e. (declared_there_lem b w higher x y e).0) c))

-- A table that holds "higher" has the test's values, and the circles on its diagonal.
module _ (b : List ℕ) (w : WellFormed b) (t : List (List Bool)) (h : (x y : ℕ) → (entry t x y ≡ true) ↔ Higher b x y) where
  pub table_higher : (x y : ℕ) → entry t x y ≡ is_higher b x y
  table_higher x y =
      same_test (entry t x y) (is_higher b x y) (λ e. (higher_chain b w x y).1 ((h x y).0 e)) (λ e. (h x y).1 ((higher_chain b w x y).0 e))

  pub diagonal_circle : (p : ℕ) → on_diagonal t p ≡ circle (productions b) (declarations_of b) p
  unfolding on_diagonal circle
  diagonal_circle p = ap (λ (v : Bool). refuse_if v Circle p) (table_higher p p)

-- ---- the bytes of a declaration that stands at `at`

module _ (b : List ℕ) (d at x : ℕ) (e : at ≡ declaration_at b d) where
  pub kind_is : x ≡ get_or b at 0 → x ≡ kind b d
  unfolding kind
  kind_is f = f ∙ ap (λ (a : ℕ). get_or b a 0) e

  pub first_is : x ≡ get_or b (at + 1) 0 → x ≡ first b d
  unfolding first
  first_is f = f ∙ ap (λ (a : ℕ). get_or b (a + 1) 0) e

  pub second_is : x ≡ get_or b (at + 2) 0 → x ≡ second b d
  unfolding second
  second_is f = f ∙ ap (λ (a : ℕ). get_or b (a + 2) 0) e
